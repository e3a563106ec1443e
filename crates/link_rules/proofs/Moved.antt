-- A definition that is moved into the merged module is one, and a declaration is none.
use Rattle.std.proofs.Common.{◌≡◌, Bool, true, false, not, ◌&&◌, List, Option, Some, None, refl, ap, ◌∙◌, option_map}
use Rattle.std.specs.Prelude.{is_some}
use Rattle.std.proofs.lemmas.Bool.{and_from, and_parts, cond-true, cond-false}
use Rattle.module_arena.specs.Module.{Bytes, Constant, Module}
use Rattle.linkage_rules.specs.Globals.{Global, OfVariable, OfFunction, OfAlias, linkage_of, is_written}
use Rattle.linkage_rules.specs.Linkages.{is_appending, is_available_externally}
use Rattle.linkage_rules.specs.Entries.{Entry}
use Rattle.linkage_rules.specs.declared.symbol.Symbol.{Symbol}
use Rattle.linkage_rules.specs.Winner.{definitions, is_definition}
use Rattle.link_rules.specs.Linked.{joined_initialiser, linked_definition, linked_declaration, declared_linkage, linked_first}
use Rattle.link_rules.proofs.Merged.{definition_linkage, declares}
use Rattle.link_rules.specs.Carried.{moved_under}

pub kept_some : {A B : Type 0} (f : A → B) (o : Option A) → is_some (option_map f o) ≡ is_some o
kept_some f None = refl
kept_some f (Some a) = refl

joined_some : (parts : List Module) (e : Entry) (es : List Entry) (c : Option Constant) → is_some c ≡ true → is_some (joined_initialiser parts e es c) ≡ true
joined_some parts e es c h = go (is_appending (linkage_of e.global)) refl
  where
    go : (b : Bool) → is_appending (linkage_of e.global) ≡ b → is_some (joined_initialiser parts e es c) ≡ true
    go true t = ap is_some (cond-true (is_appending (linkage_of e.global)) _ _ t)
    go false t = ap is_some (cond-false (is_appending (linkage_of e.global)) _ _ t) ∙ kept_some _ c ∙ h

definition_written : (parts : List Module) (m : Bytes) (e : Entry) (es : List Entry) (g : Global) → is_written g ≡ true → is_written (linked_definition parts m e es g) ≡ true
definition_written parts m e es (OfVariable v) h = joined_some parts e es v.initialiser h
definition_written parts m e es (OfFunction f) h = kept_some _ f.body ∙ h
definition_written parts m e es (OfAlias a) h = refl

pub moved_defines : (parts : List Module) (s : Symbol) (m : Bytes) (e : Entry) → is_definition e ≡ true → is_definition (moved_under parts s m e) ≡ true
moved_defines parts s m e h =
    let halves = and_parts (is_written e.global) _ h in
    and_from _ _ (definition_written parts m e (definitions parts s) e.global halves.0)
    (ap (λ l. not (is_available_externally l)) (definition_linkage parts m e (definitions parts s) e.global) ∙ halves.1)

pub first_undefined : (parts : List Module) (s : Symbol) (m : Bytes) (o : Option Entry) → is_definition (record { part = 0; global = linked_first parts s m o }) ≡ false
first_undefined parts s m None = refl
first_undefined parts s m (Some e) =
    ap (λ b. b && not (is_available_externally (linkage_of (linked_declaration (declared_linkage parts s) parts m e.part e.global)))) (declares (declared_linkage parts s) parts m e.part e.global).unwritten
