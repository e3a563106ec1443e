-- The texts and names of a module are held in its table.
use Rattle.std.proofs.Common.{◌≡◌, ℕ, zero, suc, Bool, true, List, [], ◌∷◌, ◌++◌, map, Option, Some, refl, sym, ap, subst}
use Rattle.std.specs.Prelude.{option_to_list, flat_map, slice_get, bytes_eq, unwrap_or, MatchOption, ⊤}
use Rattle.std.proofs.lemmas.Bool.{or_left}
use Rattle.std.proofs.lemmas.Slice.Eq.{bytes_eq-Decides}
use Rattle.module_arena.specs.Module.{Bytes, Function, Module}
use Rattle.record_table.specs.StringTable.{has_text}
use Rattle.record_table.specs.Spelling.{texts_of, texts_of_body, texts_in}
use Rattle.record_table.proofs.TableLaws.{held_in_table, in_front, in_rest}

-- a text that is written anywhere
pub held : (m : Module) (text : Bytes) → has_text (texts_of m) text ≡ true → (texts_in m).holds text ≡ true
held m text h = held_in_table (texts_of m) text h

has_itself : (text : Bytes) → has_text (text ∷ []) text ≡ true
has_itself text = or_left (bytes_eq text text) Bool.false ((bytes_eq-Decides text text).1 refl)

has_some : (o : Option Bytes) (text : Bytes) → o ≡ Some text → has_text (option_to_list o) text ≡ true
has_some o text e = subst (λ (o : Option Bytes). has_text (option_to_list o) text ≡ true) (sym e) (has_itself text)

-- those of all functions, one of which has it
in_bodies : (fs : List Function) (k : ℕ) (f : Function) (text : Bytes) → slice_get fs k ≡ Some f → has_text (texts_of_body f) text ≡ true → has_text (flat_map texts_of_body fs) text ≡ true
in_bodies [] k f text e h = absurd (subst (λ (o : Option Function). MatchOption o ⊤ (λ y. ⊥)) e tt)
in_bodies (g ∷ fs) zero f text e h =
    in_front (texts_of_body g) (flat_map texts_of_body fs) text (subst (λ (x : Function). has_text (texts_of_body x) text ≡ true) (sym (ap (λ o. unwrap_or o g) e)) h)
in_bodies (g ∷ fs) (suc k) f text e h = in_rest (texts_of_body g) (flat_map texts_of_body fs) text (in_bodies fs k f text e h)

module _ (m : Module) (text : Bytes) where
  abbrev Held : Type 0
  Held = (texts_in m).holds text ≡ true

  -- the texts up to a kind of them
  abbrev sources : List Bytes
  sources = option_to_list m.source

  abbrev to_layout : List Bytes
  to_layout = sources ++ option_to_list m.layout

  abbrev to_triple : List Bytes
  to_triple = to_layout ++ option_to_list m.triple

  abbrev to_structs : List Bytes
  to_structs = to_triple ++ map (λ s. s.0) m.structs

  abbrev to_variables : List Bytes
  to_variables = to_structs ++ map (λ v. v.name) m.variables

  abbrev to_functions : List Bytes
  to_functions = to_variables ++ map (λ f. f.name) m.functions

  abbrev to_aliases : List Bytes
  to_aliases = to_functions ++ map (λ a. a.name) m.aliases

  of_aliases : has_text to_aliases text ≡ true → Held
  of_aliases h = held m text (in_front to_aliases (flat_map texts_of_body m.functions) text h)

  of_functions : has_text to_functions text ≡ true → Held
  of_functions h = of_aliases (in_front to_functions (map (λ a. a.name) m.aliases) text h)

  of_variables : has_text to_variables text ≡ true → Held
  of_variables h = of_functions (in_front to_variables (map (λ f. f.name) m.functions) text h)

  of_structs : has_text to_structs text ≡ true → Held
  of_structs h = of_variables (in_front to_structs (map (λ v. v.name) m.variables) text h)

  of_triple : has_text to_triple text ≡ true → Held
  of_triple h = of_structs (in_front to_triple (map (λ s. s.0) m.structs) text h)

  of_layout : has_text to_layout text ≡ true → Held
  of_layout h = of_triple (in_front to_layout (option_to_list m.triple) text h)

  pub source_held : m.source ≡ Some text → Held
  source_held e = of_layout (in_front sources (option_to_list m.layout) text (has_some m.source text e))

  pub layout_held : m.layout ≡ Some text → Held
  layout_held e = of_layout (in_rest sources (option_to_list m.layout) text (has_some m.layout text e))

  pub triple_held : m.triple ≡ Some text → Held
  triple_held e = of_triple (in_rest to_layout (option_to_list m.triple) text (has_some m.triple text e))

  pub struct_held : has_text (map (λ s. s.0) m.structs) text ≡ true → Held
  struct_held h = of_structs (in_rest to_triple (map (λ s. s.0) m.structs) text h)

  pub variable_held : has_text (map (λ v. v.name) m.variables) text ≡ true → Held
  variable_held h = of_variables (in_rest to_structs (map (λ v. v.name) m.variables) text h)

  pub function_held : has_text (map (λ f. f.name) m.functions) text ≡ true → Held
  function_held h = of_functions (in_rest to_variables (map (λ f. f.name) m.functions) text h)

  pub alias_held : has_text (map (λ a. a.name) m.aliases) text ≡ true → Held
  alias_held h = of_aliases (in_rest to_functions (map (λ a. a.name) m.aliases) text h)

  pub local_held : (k : ℕ) (f : Function) → slice_get m.functions k ≡ Some f → has_text (texts_of_body f) text ≡ true → Held
  local_held k f e h = held m text (in_rest to_aliases (flat_map texts_of_body m.functions) text (in_bodies m.functions k f text e h))
