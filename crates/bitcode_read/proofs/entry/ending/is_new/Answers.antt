use Rattle.std.proofs.Common.{◌≡◌, true, Some, None, refl, sym, ap, ◌∙◌}
use Rattle.std.proofs.lemmas.Bool.{false≢true}
use Rattle.std.proofs.lemmas.Bool.Decides.{Decides-eqb}
use Rattle.module_arena.specs.SameConst.{same_global}
use Rattle.module_arena.specs.declared.entry.GlobalId.{GlobalId}
use Rattle.module_arena.specs.declared.entry.GlobalId.TheVariants as global
use Rattle.bitcode_read.proofs.entry.ending.is_new.Goals as goal

same : (g h : GlobalId) → Some g ≡ Some h → g ≡ h
same g h e = cc

never : (g : GlobalId) → None ≡ Some g → ⊥
never g e = cc

sound : (a b : GlobalId) → same_global a b ≡ true → a ≡ b
sound (global.Variable a) (global.Variable b) h = ap global.Variable ((Decides-eqb a b).0 h)
sound (global.Function a) (global.Function b) h = ap global.Function ((Decides-eqb a b).0 h)
sound (global.Alias a) (global.Alias b) h = ap global.Alias ((Decides-eqb a b).0 h)
sound _ _ h = absurd (false≢true h)

itself : (a : GlobalId) → same_global a a ≡ true
itself (global.Variable a) = (Decides-eqb a a).1 refl
itself (global.Function a) = (Decides-eqb a a).1 refl
itself (global.Alias a) = (Decides-eqb a a).1 refl

pub returns-in-Some : goal.returns-in-Some
returns-in-Some c = (
  (λ yes g is. sym (same c.in-Some.id g (sym c.in-Some.is ∙ (c.lookup-found.ensures g).1 is)) ∙ sound c.in-Some.id c.args.own (sym c.is_same_global.ensures ∙ yes)),
  (λ all. c.is_same_global.ensures ∙ (ap (λ g. same_global c.in-Some.id g) (sym (all c.in-Some.id ((c.lookup-found.ensures c.in-Some.id).0 c.in-Some.is))) ∙ itself c.in-Some.id)),
)

pub returns-in-None : goal.returns-in-None
returns-in-None c = ((λ yes g is. absurd (never g (sym c.in-None.is ∙ (c.lookup-found.ensures g).1 is))), (λ all. refl))
