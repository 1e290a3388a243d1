use Rattle.std.proofs.Common.{◌≡◌, false, ◌∙◌, ap, length, map, sym}
use Rattle.std.specs.List.{list_any}
use Rattle.span_tables.specs.Net.{accounts_of}
use Rattle.binding.specs.near.Ledgers.{is_foreign, is_listed}
use Rattle.binding.specs.near.Nets.{entries_of}
use Rattle.binding.specs.near.Sums.{kept_holdings}
use Rattle.binding.proofs.BindLaws.{no_foreign}
use Rattle.binding.proofs.KnownRecords.{all_pass}
use Rattle.binding.proofs.SliceLaws.{whole_nets}
use Rattle.binding.proofs.binder.Binder.bound.Goals as goal

pub portfolios_or_fault-requires : goal.portfolios_or_fault-requires
portfolios_or_fault-requires c =
    let ids = c.self.inside.numbers.keys in
    let positions = c.args.positions.now in
    let known : list_any (is_foreign ids) positions ≡ false =
    ap (λ k. list_any (is_foreign k) positions) c.self.view_is ∙ c.requires.all_known in
    record {
      contracts = c.requires.contracts;
      ids_are = c.requires.ids_are ∙ sym c.self.view_is;
      apart = c.self.invariant.apart;
      unknown_are = c.new.ensures.items ∙ sym (no_foreign ids positions known);
      nets_are = c.requires.nets_are ∙ whole_nets c.args.self.now positions
          ∙ ap (λ k. map (kept_holdings (length k)) (map (entries_of k positions) (accounts_of positions))) (sym c.self.view_is)
          ∙ ap (λ ps. map (kept_holdings (length ids)) (map (entries_of ids ps) (accounts_of positions)))
          (sym (all_pass (is_listed ids) positions known));
    }

pub returns : goal.returns
returns c = λ contracts is. c.portfolios_or_fault.ensures contracts (is ∙ sym c.self.view_is)
