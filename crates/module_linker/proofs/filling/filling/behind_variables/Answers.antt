use Rattle.std.proofs.Common.{◌≡◌, ◌+◌, ◌-◌, sym, ◌∙◌, subst, arith}
use Rattle.module_linker.specs.Filling.Standing.{ArePlainFrom}
use Rattle.module_linker.proofs.OnFilling.NextSymbol.{plain_at_end, plain_more}
use Rattle.module_linker.proofs.filling.filling.behind_variables.Goals as goal

pub ids-init : goal.ids-init
ids-init c = record { upto = omega arith; plain = plain_at_end c.args.new.now }

pub ids-preserved : goal.ids-preserved
ids-preserved c =
    let back : c.ids.first ≡ (c.ids.first - 1) + 1 = omega (arith, c.ids-test.true) in
    record {
      upto = omega (arith, c.ids.invariant.upto);
      plain = plain_more c.args.new.now (c.ids.first - 1) c.id_at.result (subst (λ n. ArePlainFrom n c.args.new.now) back c.ids.invariant.plain) c.id_at.ensures (sym c.is_variable.ensures ∙ c.if-is_variable.false);
    }
