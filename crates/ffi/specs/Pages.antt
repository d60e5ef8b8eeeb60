-- What judging a page says of it. Assumes nothing.
use Rattle.std.specs.Prelude.{Ok, Err, Result, length}
use Rattle.pages.specs.declared.faults.PageFault.{PageFault}
use Rattle.pages.specs.Shape.{Lines}
use Rattle.pages.specs.Faults.{page_details}
use Rattle.ffi.specs.declared.page.Checked.{Checked}
use Rattle.ffi.specs.declared.refusals.RefusalFields.{RefusalFields}
use Rattle.ffi.specs.Refusals.{none, fields_of}

-- what is told of a bad page
abbrev pub fault_checked : RefusalFields → Checked
fault_checked f = record { lines = 0; place = f.place; line = f.line; cell = f.cell }

-- how many lines a good page has; of a bad one the values of its fault
abbrev pub checked_of : Result Lines PageFault → Checked
checked_of (Ok lines) = record { lines = length lines; place = none; line = none; cell = none }
checked_of (Err f) = fault_checked (fields_of (page_details f))
