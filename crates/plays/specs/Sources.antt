-- What is read of a source, and how the reading fails. Assumes nothing.
use Rattle.std.specs.Prelude.{◌≡◌, ℕ, List, ◌++◌, ⊤, Option}
use Rattle.std.specs.Io.KnownBytes.{Consumes}
use Rattle.std.specs.declared.io.Error.{Error}
use Rattle.plays.specs.declared.source.LoadFault.{LoadFault}
use Rattle.plays.specs.declared.source.LoadFault.TheVariants.{Reading, Memory}

-- the longer bytes are the bytes, and then what the source gave between page and later, where it is
-- known what it has left
abbrev pub Gained : {S : Type 0} → (S → Option (List ℕ)) → S → S → List ℕ → List ℕ → Type 0
Gained remaining page later bytes longer =
    (more : List ℕ) × Consumes (remaining page) (remaining later) more × (longer ≡ bytes ++ more)

-- a fault of reading is an error that a read made now may end with
abbrev pub FailsNow : {S : Type 0} → (S → Error → Type 0) → S → LoadFault → Type 0
FailsNow may_fail page (Reading e) = may_fail page e
FailsNow may_fail page (Memory e) = ⊤

-- a fault of reading is an error that a read may end with once the source has given some bytes
abbrev pub Fails : {S : Type 0} → (S → Option (List ℕ)) → (S → Error → Type 0)
    → S → LoadFault → Type 0
Fails {S} remaining may_fail page f =
    (later : S) × (given : List ℕ) × Consumes (remaining page) (remaining later) given
    × FailsNow may_fail later f
