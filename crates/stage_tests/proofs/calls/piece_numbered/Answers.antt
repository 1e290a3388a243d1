use Rattle.std.proofs.Common.{◌≡◌, [], ◌∷◌, ◌∙◌, Some, rules, subst, sym}
use Rattle.std.proofs.lemmas.List.{append-nil}
use Rattle.span_csv.specs.near.Pieces.{AreTogether, HasAccounts}
use Rattle.span_csv.proofs.TogetherLaws.{together_known}
use Rattle.stage_tests.proofs.calls.piece_numbered.Goals as goal

pub numbered-requires : goal.numbered-requires
numbered-requires c =
    let accounts = c.in-Some-2.accounts in
    let piece = c.in-Some.piece in
    let together : AreTogether accounts (piece ∷ []) = search rules in
    let again : Some c.in-Some-3.piece ≡ Some piece =
    sym c.in-Some-3.is ∙ c.in_ok-piece-2.ensures ∙ sym c.in_ok-piece.ensures ∙ c.in-Some.is in
    let same : c.in-Some-3.piece ≡ piece = cc in
    subst (HasAccounts accounts) (append-nil piece ∙ sym same) (together_known (piece ∷ []) accounts together)
