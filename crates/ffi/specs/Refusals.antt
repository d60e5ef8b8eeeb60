-- A refusal as the structs of include/markbook.h have it. Assumes nothing.
use Rattle.std.specs.Prelude.{ℕ, ◌-◌, ◌^◌, Some, None, Option}
use Rattle.pages.specs.declared.faults.Details.{Details}
use Rattle.ffi.specs.declared.refusals.RefusalFields.{RefusalFields}

-- stands where there is no such number: the greatest of 64 bits
abbrev pub none : ℕ
none = 2 ^ 64 - 1

abbrev pub or_none : Option ℕ → ℕ
or_none (Some n) = n
or_none None = none

-- the number of a refusal, and each of its values, where it has it
abbrev pub fields_of : Details → RefusalFields
fields_of d = record {
  number = d.number;
  place = or_none d.place;
  line = or_none d.line;
  cell = or_none d.cell;
}
