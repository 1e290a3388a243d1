use Rattle.std.proofs.Common.{◌≡◌, ◌∙◌, ◌<◌, Bool, eqb, filter, length, refl, rules, sym, ap, subst}
use Rattle.std.specs.Prelude.{All}
use Rattle.std.proofs.lemmas.List.Sorted.{All-permutation, IsNonDecreasingBy-from_sort_by_key}
use Rattle.span_tables.specs.Tables.{rising_by}
use Rattle.span_tables.specs.declared.portfolios.Holding.{Holding}
use Rattle.span_tables.specs.near.Gathered.{number_held}
use Rattle.span_tables.proofs.HeldLemmas.{all_known}
use Rattle.span_tables.proofs.StableSort.{rising_of_key, sorted_by_closure}
use Rattle.span_tables.proofs.RunLemmas.{by_number}
use Rattle.span_tables.proofs.runs.sort_by_commodity.Goals as goal

pub returns : goal.returns
returns c =
    let t = c.args.tables.now in
    let hs = c.args.holdings.now in
    let before = c.extend_from_slice.new.self.items in
    let after = c.sort_by_key.new.self.items in
    let all : before ≡ hs = c.in_ok-extend_from_slice.ensures.items ∙ rw c.clear.ensures.items refl in
    let known = all_known _ _ c.requires in
    let known_after = All-permutation (λ h. h.contract < length t.contracts) before after c.in_ok-sort_by_key.ensures.permutation
    (subst (λ gs. All (λ h. h.contract < length t.contracts) gs) (sym all) known) in
    let is : after ≡ rising_by (number_held t) before =
    sorted_by_closure (number_held t) before after c.in_ok-sort_by_key.ensures.sorted c.in_ok-sort_by_key.ensures.stable
    (λ a r q k. search rules) in
    record {
      known = known_after;
      rise = IsNonDecreasingBy-from_sort_by_key (number_held t) after c.in_ok-sort_by_key.ensures.sorted (λ a r q k. search rules);
      same = λ n below.
          let of : Holding → Bool = λ h. eqb (number_held t h) n in
          by_number t c.known.ensures n after below known_after
          ∙ ap (filter of) is ∙ rising_of_key (number_held t) n before ∙ ap (filter of) all
          ∙ sym (by_number t c.known.ensures n hs below known);
    }
