use Rattle.std.specs.Result.{is_ok}
use Rattle.std.proofs.Common.{◌≡◌, ◌≤◌, arith, rules, sym, refl, ap, ◌∙◌, take, replicate, Ok}
use Rattle.positions.specs.Positions.{is_position}
use Rattle.descriptions.specs.Kinds.{charted}
use Rattle.reader.specs.declared.calls.Outcome.TheVariants.{Found, Spent, Exhausted}
use Rattle.desk.proofs.Found.{still_ready, seen_by, looks_by, line_kept, not_refused}
use Rattle.desk.proofs.desk.Desk.look.Goals as goal

pub unwrap-outcome-requires : goal.unwrap-outcome-requires
unwrap-outcome-requires c =
    let room : 24 ≤ 24 = omega arith in
    let outcome = not_refused c.args.self.now c.requires.ready (replicate 24 0) room in
    ap is_ok (c.next.ensures.answer ∙ outcome.1)

pub at-requires-clause-position : goal.at-requires-clause-position
at-requires-clause-position c =
    let found : c.next.result ≡ Ok (Found c.in-Found.field-0) = search rules in
    let seen = seen_by c.args.self.now c.requires.ready _ c.in-Found.field-0 (sym c.next.ensures.answer ∙ found) in
    ap (λ p. is_position (take 17 p)) c.next.ensures.place ∙ seen.position

pub returns-in-Found-clause-ready : goal.returns-in-Found-clause-ready
returns-in-Found-clause-ready c =
    still_ready c.args.self.now _ c.requires.ready refl (ap (λ v. v.line) c.next.ensures.state ∙ line_kept c.args.self.now c.requires.ready _)
    c.next.ensures.kept c.next.ensures.agrees

pub returns-in-Found-clause-looks : goal.returns-in-Found-clause-looks
returns-in-Found-clause-looks c =
    let found : c.next.result ≡ Ok (Found c.in-Found.field-0) = search rules in
    let told = sym c.next.ensures.answer ∙ found in
    let seen = seen_by c.args.self.now c.requires.ready _ c.in-Found.field-0 told in
    let text = c.at.ensures.text ∙ ap (take 17) c.next.ensures.place in
    looks_by c.args.self.now _ c.requires.ready refl c.next.ensures.state
    (told ∙ ap (λ n. Ok (Found n)) seen.cells, text, search rules, ap (λ w. (charted c.args.self.now.sheet).admits w) text ∙ seen.admits)

pub returns-in-Spent-clause-ready : goal.returns-in-Spent-clause-ready
returns-in-Spent-clause-ready c =
    still_ready c.args.self.now _ c.requires.ready refl (ap (λ v. v.line) c.next.ensures.state ∙ line_kept c.args.self.now c.requires.ready _)
    c.next.ensures.kept c.next.ensures.agrees

pub returns-in-Spent-clause-looks : goal.returns-in-Spent-clause-looks
returns-in-Spent-clause-looks c =
    let spent : c.next.result ≡ Ok Spent = search rules in
    looks_by c.args.self.now _ c.requires.ready refl c.next.ensures.state (sym c.next.ensures.answer ∙ spent)

pub returns-in-Exhausted-clause-ready : goal.returns-in-Exhausted-clause-ready
returns-in-Exhausted-clause-ready c =
    still_ready c.args.self.now _ c.requires.ready refl (ap (λ v. v.line) c.next.ensures.state ∙ line_kept c.args.self.now c.requires.ready _)
    c.next.ensures.kept c.next.ensures.agrees

pub returns-in-Exhausted-clause-looks : goal.returns-in-Exhausted-clause-looks
returns-in-Exhausted-clause-looks c =
    let exhausted : c.next.result ≡ Ok Exhausted = search rules in
    looks_by c.args.self.now _ c.requires.ready refl c.next.ensures.state (sym c.next.ensures.answer ∙ exhausted)
