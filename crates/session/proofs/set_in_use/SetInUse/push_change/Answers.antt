use Rattle.std.proofs.Common.{◌≡◌, ◌∙◌, ◌++◌, OnOk, ap, refl, subst, sym}
use Rattle.span_tables.specs.Tables.{AcceptedTables}
use Rattle.step_scheduler.specs.Rows.{RowView}
use Rattle.binding.specs.OrderBinding.{TriedOrder}
use Rattle.whatif.specs.Whatif.{order_text}
use Rattle.whatif.specs.near.Trials.{IsTried, TrialView}
use Rattle.session.proofs.set_in_use.SetInUse.push_change.Goals as goal

pub returns-clause-lines : goal.returns-clause-lines
returns-clause-lines c =
    let set : c.row_before.new.self ≡ c.args.self.now = c.row_before.ensures.same in
    let after : c.deref-2.result.now ≡ record { set = c.args.self.now; portfolio = c.args.after } =
    c.deref-2.ensures ∙ c.in_ok-after.ensures.row ∙ (λ k. record { set = set k; portfolio = c.args.after }) in
    let before = c.deref.ensures ∙ c.in_ok-before.ensures.row in
    let o : TriedOrder = record {
      order = c.args.order.now;
      before = record { account = c.args.account.now; holdings = c.args.held.now };
      after = c.args.after;
    } in
    let is : IsTried c.new.result o = subst (λ (v : TrialView). IsTried v o) (sym c.new.ensures) (record {
      order_is = refl;
      before_is = ap (λ (r : RowView). r.portfolio.holdings) before;
      after_is = ap (λ (r : RowView). r.portfolio) after;
    }) in
    subst (λ (t : AcceptedTables). OnOk c.push_to.result (c.push_to.new.out.items ≡ c.args.out.now.items ++ order_text t o))
    (ap (λ (v : TrialView). v.tables) c.new.ensures ∙ ap (λ (r : RowView). r.set.tables) after) (c.push_to.ensures o is)
