-- What the record of a variable or of a function spells is read back.
use Rattle.std.proofs.Common.{◌≡◌, ℕ, List, ◌++◌, length, Option, Some, None, refl, sym, ap, ◌∙◌}
use Rattle.std.specs.Prelude.{⊤, zip}
use Rattle.std.specs.List.{AllByRecursion}
use Rattle.ir_tables.specs.declared.linkage.Linkage.{Linkage}
use Rattle.ir_tables.specs.declared.linkage.Linkage.TheVariants.{External, Private, Internal, AvailableExternally, Linkonce, LinkonceOdr, Weak, WeakOdr, Common, Appending, ExternWeak}
use Rattle.ir_tables.specs.Linkage.{linkage_of_code}
use Rattle.type_table.specs.Tree.{Tree}
use Rattle.module_arena.specs.Module.{Constant, Function}
use Rattle.record_table.specs.Walk.{going, next}
use Rattle.record_table.specs.Fields.{Texts, Numbering, name, label, linkage}
use Rattle.record_table.specs.Bodies.{numbers_from}
use Rattle.record_table.specs.Records.{variable, function, types_of, parameters_of}
use Rattle.record_table.specs.Listed.{IsType, IsName, IsLabel}
use Rattle.record_table.specs.FittingConstants.{Fits}
use Rattle.record_table.specs.FittingLines.{IfSome, IsAbsent}
use Rattle.record_law.specs.FittingEntries.{VariableFits}
use Rattle.record_table.specs.Lays.{Lays}
use Rattle.record_table.proofs.Layouts.{IsGoodOption, lays_both, lays_chain, lays_mapped, lays_counted, lays_option, lays_as}
use Rattle.record_table.proofs.InstructionsBack as lines
use Rattle.record_table.proofs.EndingsBack as ends

pub lays_linkage : Lays (λ l. ⊤) linkage
unfolding next linkage_of_code
lays_linkage = record { back = back } where
  back : (l : Linkage) (rest : List ℕ) → ⊤ → linkage.read (going (linkage.spell l ++ rest) None) ≡ (l, going rest None)
  back External rest g = refl
  back Private rest g = refl
  back Internal rest g = refl
  back AvailableExternally rest g = refl
  back Linkonce rest g = refl
  back LinkonceOdr rest g = refl
  back Weak rest g = refl
  back WeakOdr rest g = refl
  back Common rest g = refl
  back Appending rest g = refl
  back ExternWeak rest g = refl

-- the parameters of a declaration have the numbers from 0
abbrev pub DeclarationFits : Texts → Numbering → Function → Type 0
DeclarationFits texts k f =
    IsName texts f.name × IsType k f.returns × AllByRecursion (IsType k) (types_of f)
    × (parameters_of (zip (types_of f) (numbers_from 0 (length (types_of f)))) ≡ f.parameters)
    × IsAbsent f.body

module _ (texts : Texts) (k : Numbering) (lays_label : (own : ℕ) → Lays (IsLabel texts own) (label texts own)) (lays_name : Lays (IsName texts) (name texts)) where
  if_some : (t : Tree) (c : Option Constant) → IfSome (λ c. Fits k c 64 t) c → IsGoodOption (λ c. Fits k c 64 t) c
  if_some t None fit = tt
  if_some t (Some c) fit = fit

  pub lays_variable : Lays (VariableFits texts k) (variable texts k)
  lays_variable = lays_as (λ v fit. ((fit.0, (tt, (tt, (fit.1, (fit.2, if_some v.ty v.initialiser fit.3))))), refl))
      (lays_mapped (λ (n, (l, (c, (t, (a, i))))). record { name = n; linkage = l; constant = c; ty = t; alignment = a; initialiser = i })
      (λ v. (v.name, (v.linkage, (v.constant, (v.ty, (v.alignment, v.initialiser))))))
      (lays_both lays_name (lays_both lays_linkage (lays_both (lines.lays_truth texts k lays_label) (lays_chain (lines.lays_ty texts k lays_label)
      (λ t known. lays_both (lines.lays_alignment texts k lays_label) (lays_option (ends.lays_constant texts k lays_label t))))))))

  absent : (f : Function) → DeclarationFits texts k f → f.body ≡ None
  absent f fit = of_body f.body fit.4 where
    of_body : {A : Type 0} (b : Option A) → IsAbsent b → b ≡ None
    of_body None is = refl
    of_body (Some x) is = elim is [ ]

  pub lays_function : Lays (λ x. DeclarationFits texts k x.1) (function texts k)
  lays_function = lays_as (λ x fit. (
    (fit.0, (tt, (tt, (fit.1, (tt, fit.2))))),
    ap (λ ps. (x.0, record { name = x.1.name; linkage = x.1.linkage; returns = x.1.returns; parameters = ps; variadic = x.1.variadic; body = None })) fit.3
        ∙ ap (λ b. (x.0, record { name = x.1.name; linkage = x.1.linkage; returns = x.1.returns; parameters = x.1.parameters; variadic = x.1.variadic; body = b })) (sym (absent x.1 fit)),
  ))
      (lays_mapped (λ (n, (l, (d, (t, (v, ts))))). (d, record { name = n; linkage = l; returns = t; parameters = parameters_of (zip ts (numbers_from 0 (length ts))); variadic = v; body = None }))
      (λ (d, f). (f.name, (f.linkage, (d, (f.returns, (f.variadic, types_of f))))))
      (lays_both lays_name (lays_both lays_linkage (lays_both (lines.lays_truth texts k lays_label) (lays_both (lines.lays_ty texts k lays_label)
      (lays_both (lines.lays_truth texts k lays_label) (lays_counted (lines.lays_ty texts k lays_label))))))))
