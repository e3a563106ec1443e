-- What the record of an alias spells is read back.
use Rattle.std.proofs.Common.{◌≡◌, ℕ, [], refl, ap}
use Rattle.std.specs.Prelude.{bytes_eq, ⊤}
use Rattle.module_arena.specs.Module.{AliasType, PlainType, FunctionType}
use Rattle.record_table.specs.Fields.{Texts, Numbering, name, label}
use Rattle.record_table.specs.Records.{alias, alias_type_of, alias_type_parts}
use Rattle.record_table.specs.Listed.{IsType, IsName, IsLabel}
use Rattle.record_law.specs.FittingEntries.{AliasTypeFits, AliasFits}
use Rattle.std.specs.List.{AllByRecursion}
use Rattle.record_table.specs.Lays.{Lays}
use Rattle.record_table.proofs.Layouts.{IsEither, lays_indexed, lays_both, lays_mapped, lays_counted, lays_either, lays_as}
use Rattle.record_table.proofs.InstructionsBack as lines
use Rattle.record_law.proofs.GlobalsBack.{lays_linkage}

type_again : (t : AliasType) → alias_type_of (alias_type_parts t) ≡ t
type_again (PlainType t) = refl
type_again (FunctionType s) = refl

module _ (texts : Texts) (k : Numbering) (lays_label : (own : ℕ) → Lays (IsLabel texts own) (label texts own)) (lays_name : Lays (IsName texts) (name texts)) where
  type_parts_fit : (t : AliasType) → AliasTypeFits k t → IsEither (IsType k) (λ x. IsType k x.0 × (⊤ × AllByRecursion (IsType k) x.1.1)) (alias_type_parts t)
  type_parts_fit (PlainType t) fit = fit
  type_parts_fit (FunctionType s) fit = (fit.0, (tt, fit.1))

  pub lays_alias : Lays (AliasFits texts k) (alias texts k)
  lays_alias = lays_as (λ a fit. ((fit.0, (tt, (type_parts_fit a.ty fit.1, fit.2))), ap (λ t. record { name = a.name; linkage = a.linkage; ty = t; target = a.target }) (type_again a.ty)))
      (lays_mapped (λ (n, (l, (t, of))). record { name = n; linkage = l; ty = alias_type_of t; target = of })
      (λ a. (a.name, (a.linkage, (alias_type_parts a.ty, a.target))))
      (lays_both lays_name (lays_both lays_linkage (lays_both
      (lays_either (lines.lays_ty texts k lays_label) (lays_both (lines.lays_ty texts k lays_label) (lays_both (lines.lays_truth texts k lays_label) (lays_counted (lines.lays_ty texts k lays_label)))))
      (lays_indexed bytes_eq k.targets [])))))
