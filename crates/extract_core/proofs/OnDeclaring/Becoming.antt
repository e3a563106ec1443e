-- What is declared of a variable or a function is what it becomes, without its initialiser or body.
use Rattle.std.proofs.Common.{◌≡◌, [], ◌∷◌, map, None, refl, sym, ap}
use Rattle.std.specs.Prelude.{option_to_list}
use Rattle.ir_tables.specs.declared.linkage.Linkage.{Linkage}
use Rattle.ir_tables.specs.declared.linkage.Linkage.TheVariants.{External, Private, Internal, Common, Appending, ExternWeak, AvailableExternally, Linkonce, LinkonceOdr, Weak, WeakOdr}
use Rattle.module_arena.specs.Module.{Variable}
use Rattle.item_build.specs.Types.Declarations.{without_initialiser}
use Rattle.extract_rules.specs.Extracted.{declared_variable}
use Rattle.extract_core.specs.declared.fates.fates.Fate.{Fate}
use Rattle.extract_core.specs.declared.fates.fates.Fate.TheVariants.{Kept, Declared, LeftOut}
use Rattle.extract_core.specs.Fates.Fates.{variable_as, variable_linkage, is_emptied, type_as}

-- a variable as it is declared by this fate
abbrev pub variable_declared : Fate → Linkage → Variable → Variable
variable_declared fate linkage v = record v { linkage = variable_linkage fate linkage; ty = type_as (is_emptied fate linkage) v.ty; initialiser = None }

-- only an appending one stays what it is
declared_is : (linkage : Linkage) (v : Variable) → v.linkage ≡ linkage → variable_declared Declared linkage v ≡ without_initialiser (declared_variable linkage v)
declared_is Appending v e = λ i. record (without_initialiser (declared_variable Appending v)) { linkage = sym e i }
declared_is External v e = refl
declared_is Private v e = refl
declared_is Internal v e = refl
declared_is Common v e = refl
declared_is ExternWeak v e = refl
declared_is AvailableExternally v e = refl
declared_is Linkonce v e = refl
declared_is LinkonceOdr v e = refl
declared_is Weak v e = refl
declared_is WeakOdr v e = refl

pub variable_becomes : (fate : Fate) (v : Variable) → (fate ≡ LeftOut → ⊥) → variable_declared fate v.linkage v ∷ [] ≡ map without_initialiser (option_to_list (variable_as fate v))
variable_becomes Kept v there = refl
variable_becomes Declared v there = ap (λ w. w ∷ []) (declared_is v.linkage v refl)
variable_becomes LeftOut v there = absurd (there refl)
