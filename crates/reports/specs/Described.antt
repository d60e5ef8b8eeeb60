-- What describing a page gives: its text, its fault, or want of memory. Assumes nothing.
use Rattle.std.specs.Prelude.{◌≡◌, Ok, Err, string_bytes, Result, String}
use Rattle.std.specs.declared.alloc.Global.{Global}
use Rattle.pages.specs.declared.faults.PageFault.{PageFault}
use Rattle.pages.specs.Shape.{Lines}
use Rattle.reports.specs.declared.report.Trouble.{Trouble}
use Rattle.reports.specs.declared.report.Trouble.TheVariants.{Page, Memory}
use Rattle.reports.specs.Report.{good_text}

abbrev pub Described : Result (String Global) Trouble → Result Lines PageFault → Type 0
Described (Ok text) reading = (lines : Lines) × (reading ≡ Ok lines) × (string_bytes text ≡ good_text lines)
Described (Err (Page fault)) reading = reading ≡ Err fault
Described (Err (Memory error)) reading = Unit {0}
