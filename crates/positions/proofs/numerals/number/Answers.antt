use Rattle.std.proofs.Common.{◌≡◌, ℕ, ◌^◌, ◌≤◌, min, length, ◌∙◌, arith, rules}
use native.Mathlib.Nat.{pow-le-pow_right}
use borrow.Author.Tests.{tests}
use Rattle.std.proofs.lemmas.Iterator.{YieldsList-from_slice}
use Rattle.std.proofs.lemmas.Iterator.Consumers.{fold_from_yields_List}
use Rattle.positions.specs.Numerals.{number_of}
use Rattle.positions.proofs.Figures.{held, fold_held, number_small}
use Rattle.positions.proofs.numerals.number.Goals as goal

pub returns : goal.returns
returns c =
    let s = c.args.figures.now in
    let all : c.fold.result ≡ min (number_of s) 4294967295 =
    fold_from_yields_List _ held 0 c.fold.result c.fold.ensures.ran (YieldsList-from_slice s cc) (λ n x r q k. search (rules, tests)) ∙ fold_held 0 s (omega arith) in
    let most = number_small 0 s (λ i. omega (arith, c.type_inv.figures i)) in
    let fewer : (k : ℕ) → length s ≤ k → 10 ^ length s ≤ 10 ^ k = λ k h. pow-le-pow_right (omega arith) h in
    record {
      value = all;
      short = λ h. omega (arith, all, most, fewer 4 h);
      small = λ h. omega (arith, all, most, fewer 3 h);
    }
