use Rattle.std.proofs.Common.{◌≡◌, pos, arith}
use Rattle.std.proofs.lemmas.Int.{ints}
use Rattle.std.proofs.lemmas.List.Elements.{All-set}
use Rattle.inter_credit.specs.near.CommodityStates.{IsCommodityState}
use Rattle.inter_credit.proofs.LoadedLemmas.{load_marked}
use Rattle.inter_credit.proofs.OpenLemmas.{load_open, loaded_state, nothing_loaded}
use Rattle.inter_credit.proofs.state.InterState.load.Goals as goal

pub invariant_of-self : goal.invariant_of-self
invariant_of-self c =
    rw c.unspread_state.ensures (record {
      in_range = All-set IsCommodityState c.self.inside.commodities.items c.args.commodity _
          (loaded_state c.args.net c.args.price2 c.requires.net c.requires.price2) c.self.invariant.in_range;
      open_sides = load_open c.self.inside.sides c.with-self-inside.result c.self.inside.commodities.items c.args.commodity _
          c.with-self-inside.ensures.kept c.with-self-inside.ensures.added c.self.invariant.open_sides;
      are_loaded = load_marked c.self.inside.loaded c.args.commodity c.self.inside.commodities.items _ c.self.invariant.are_loaded;
    })

pub returns-then-price2-eq0-clause-value : goal.returns-then-price2-eq0-clause-value
returns-then-price2-eq0-clause-value c =
    let no_net : c.args.net ≡ pos 0 = omega (arith, ints, c.if-get-eq0.true, c.get.ensures, c.get.type_inv) in
    nothing_loaded c.args.self.now c.args.commodity c.args.net c.args.price2 no_net c.if-price2-eq0.true c.requires.not_loaded
    c.requires.unspread
