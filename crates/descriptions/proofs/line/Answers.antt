use Rattle.std.proofs.Common.{◌≡◌, ◌++◌, IfOk, string_bytes, codes, subst, rules}
use Rattle.descriptions.specs.Kinds.{kind_of}
use Rattle.descriptions.specs.Words.{kind_words}
use Rattle.descriptions.proofs.line.Goals as goal

pub returns : goal.returns
returns c =
    let kind : c.classify-kind.result ≡ kind_of c.args.sheet.now c.args.text.now = search rules in
    subst (λ k. IfOk c.format.result (λ t. string_bytes t ≡ c.args.text.now ++ (codes ": " ++ kind_words k))) kind c.format.ensures.ok
