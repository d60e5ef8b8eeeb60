use Rattle.std.proofs.Common.{◌≡◌, ◌+◌, ◌-◌, ◌<◌, ◌≤◌, min, false, length, take, drop, Some, None, refl, sym, ap, ◌∙◌, subst, arith, length-drop}
use Rattle.std.specs.List.{AllByRecursion}
use Rattle.std.proofs.lemmas.List.{take-take, take_all}
use Rattle.pages.specs.Answers.{line_of}
use Rattle.search.specs.Chains.{ranking}
use Rattle.bench.specs.Searched.{AgreesAt, admitted, due, came_to}
use Rattle.bench.proofs.Searches.{room_left, all_live, look_gives, look_ends, agrees_empty, passed_more, here_in, none_passes, passes_first}
use Rattle.bench.proofs.Bench.seek.Goals as goal

pub look-requires-clause-room : goal.look-requires-clause-room
look-requires-clause-room g c =
    let line = c.args.line.now in
    room_left g.S.Score.meaning g.met.S.Score.laws (g.G.Grammar.meaning c.args.grammar.now) (g.met.G.Grammar.laws c.args.grammar.now) (line_of line) line.sound
    c.loop-k.k c.args.granted c.loop-k.self c.loop-k.invariant.0 (omega (arith, c.loop-k-test.true, c.requires.agrees.within))

pub look-requires-clause-live : goal.look-requires-clause-live
look-requires-clause-live g c =
    let line = c.args.line.now in
    all_live g.S.Score.meaning g.met.S.Score.laws (g.G.Grammar.meaning c.args.grammar.now) (g.met.G.Grammar.laws c.args.grammar.now) (line_of line) line.sound
    c.loop-k.k c.args.granted c.loop-k.self c.loop-k.invariant.0

pub returns-in_default : goal.returns-in_default
returns-in_default g c =
    let s = g.S.Score.meaning in
    let sets = g.G.Grammar.meaning c.args.grammar.now in
    let line = c.args.line.now in
    let l = line_of line in
    let k = c.loop-k.k in
    let looked = c.args.looked in
    let granted = c.args.granted in
    let rk = ranking s sets.allows l in
    let told = c.in_default.ensures in
    let end = look_ends s g.met.S.Score.laws sets (g.met.G.Grammar.laws c.args.grammar.now) l line.sound k granted c.loop-k.self c.loop-k.invariant.0 told.0 in
    let all : take (k - looked) (drop looked rk) ≡ take (granted - looked) (drop looked rk) =
    take_all (k - looked) (drop looked rk) (omega (arith, length-drop looked rk)) ∙ sym (take_all (granted - looked) (drop looked rk) (omega (arith, length-drop looked rk, c.loop-k-test.true))) in
    record {
      agrees = agrees_empty s sets.allows l k granted c.loop-k.self c.look.new.self c.loop-k.invariant.0 told.0 told.1;
      sought = sym (ap (came_to s l looked granted (length rk)) (none_passes (admitted sets l) (due s sets l looked granted) (subst (AllByRecursion (λ d. admitted sets l d ≡ false)) all c.loop-k.invariant.1))
          ∙ ap (λ n. record { looked = n; reading = None }) (let last : min granted (length rk) ≡ k = omega (arith, c.loop-k-test.true) in last));
    }

pub returns-then-look : goal.returns-then-look
returns-then-look g c =
    let s = g.S.Score.meaning in
    let sets = g.G.Grammar.meaning c.args.grammar.now in
    let line = c.args.line.now in
    let l = line_of line in
    let k = c.loop-k.k in
    let looked = c.args.looked in
    let granted = c.args.granted in
    let rk = ranking s sets.allows l in
    let seen = c.in-Some.ensures.0 in
    let laws = g.met.S.Score.laws in
    let lawful = g.met.G.Grammar.laws c.args.grammar.now in
    let look = look_gives s laws sets lawful l line.sound k granted c.loop-k.self c.look.new.self c.in-Some.look.reading c.loop-k.invariant.0 seen in
    let le : looked ≤ k = c.loop-k.auto.k in
    let lt : k < granted = omega (arith, c.loop-k-test.true, c.requires.agrees.within) in
    let asked : c.in-Some.look.is_admitted ≡ admitted sets l seen.chain = c.in-Some.ensures.1 ∙ ap sets.admits (look.text (length l) refl) in
    let short : k - looked ≤ granted - looked = omega arith in
    let last : looked + (k - looked) + 1 ≡ k + 1 = omega arith in
    record {
      agrees = look.agrees lt;
      sought = sym (ap (came_to s l looked granted (length rk)) (passes_first (admitted sets l) (k - looked) (due s sets l looked granted) seen.chain
          (subst (AllByRecursion (λ d. admitted sets l d ≡ false)) (sym (take-take (k - looked) (granted - looked) (drop looked rk) short)) c.loop-k.invariant.1)
          (here_in (λ d. admitted sets l d ≡ false) rk looked k le granted seen.chain lt look.next.1)
          (sym asked ∙ c.if-look.true))
          ∙ (λ i. record { looked = last i; reading = Some (sym seen.reads i) }));
    }

pub loop-k-preserved : goal.loop-k-preserved
loop-k-preserved g c =
    let s = g.S.Score.meaning in
    let sets = g.G.Grammar.meaning c.args.grammar.now in
    let line = c.args.line.now in
    let l = line_of line in
    let k = c.loop-k.k in
    let looked = c.args.looked in
    let granted = c.args.granted in
    let rk = ranking s sets.allows l in
    let seen = c.in-Some.ensures.0 in
    let laws = g.met.S.Score.laws in
    let lawful = g.met.G.Grammar.laws c.args.grammar.now in
    let look = look_gives s laws sets lawful l line.sound k granted c.loop-k.self c.look.new.self c.in-Some.look.reading c.loop-k.invariant.0 seen in
    let asked : c.in-Some.look.is_admitted ≡ admitted sets l seen.chain = c.in-Some.ensures.1 ∙ ap sets.admits (look.text (length l) refl) in (
      look.agrees (omega (arith, c.loop-k-test.true, c.requires.agrees.within)),
      passed_more (λ d. admitted sets l d ≡ false) rk looked k c.loop-k.auto.k seen.chain look.next.1 c.loop-k.invariant.1
          (sym asked ∙ c.if-look.false),
    )

pub returns : goal.returns
returns g c =
    let s = g.S.Score.meaning in
    let sets = g.G.Grammar.meaning c.args.grammar.now in
    let l = line_of c.args.line.now in
    let rk = ranking s sets.allows l in
    let looked = c.args.looked in
    let granted = c.args.granted in
    let end : c.loop-k.k ≡ granted = omega (arith, c.loop-k-test.false, c.loop-k.auto.k-end c.requires.agrees.within) in
    let reached = c.loop-k.invariant.0.frontier.reached in
    record {
      agrees = subst (λ n. AgreesAt s sets.allows l n granted c.loop-k.self) end c.loop-k.invariant.0;
      sought = sym (ap (came_to s l looked granted (length rk)) (none_passes (admitted sets l) (due s sets l looked granted) (subst (λ n. AllByRecursion (λ d. admitted sets l d ≡ false) (take (n - looked) (drop looked rk))) end c.loop-k.invariant.1))
          ∙ ap (λ n. record { looked = n; reading = None }) (let last : min granted (length rk) ≡ granted = omega arith in last));
    }
