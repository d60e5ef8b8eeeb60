use Rattle.std.proofs.Common.{◌≡◌, ◌-◌, false, take, drop}
use Rattle.std.specs.List.{AllByRecursion}
use Rattle.pages.specs.Answers.{line_of}
use Rattle.search.specs.Chains.{ranking}
use Rattle.bench.specs.Searched.{AgreesAt, admitted}
use Rattle.bench.proofs.Bench.seek.Given as goal

-- k chains have been looked at, and of those since the search began none was admitted
abbrev pub invariant-loop-k : goal.invariant-loop-k
invariant-loop-k g l =
    AgreesAt g.S.Score.meaning (g.G.Grammar.meaning l.grammar).allows (line_of l.line) l.k l.granted l.self
    × AllByRecursion (λ d. admitted (g.G.Grammar.meaning l.grammar) (line_of l.line) d ≡ false) (take (l.k - l.looked) (drop l.looked (ranking g.S.Score.meaning (g.G.Grammar.meaning l.grammar).allows (line_of l.line))))
