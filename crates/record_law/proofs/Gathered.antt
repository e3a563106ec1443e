-- The names of variables, functions and aliases are gathered from the records of a module in their order.
use Rattle.std.proofs.Common.{◌≡◌, ℕ, false, List, [], ◌∷◌, ◌++◌, Option, Some, None, refl, ap, ◌∙◌, append-nil}
use Rattle.std.proofs.lemmas.Bool.{eq-eqb}
use Rattle.std.specs.Prelude.{map, filter_map, is_some, nat_eq}
use Rattle.std.specs.List.{AllByRecursion}
use Rattle.module_arena.specs.Module.{Bytes, Module}
use Rattle.bit_tree.specs.Written.{Written, no_more}
use Rattle.record_table.specs.Walk.{Walk}
use Rattle.record_table.specs.Layout.{judged}
use Rattle.record_table.specs.Fields.{Texts, Numbering, name}
use Rattle.record_table.specs.Listed.{IsName}
use Rattle.record_table.specs.Lays.{Lays}
use Rattle.record_table.specs.Records.{names_of, variable, function, alias}
use Rattle.record_table.specs.Spelling.{Line, put, put_block, put_bodies, put_module, records_put, text_line, head_lines, type_lines, body_of, numbering}
use Rattle.record_table.specs.Mentions.{mentioned}
use Rattle.record_law.proofs.OnBodies.BodyBack.{put_append}

module _ (t : Texts) (lays_name : Lays (IsName t) (name t)) where
  -- a name in front of other operands
  named : (x : Bytes) (rest : List ℕ) → IsName t x → (judged (name t) ((name t).spell x ++ rest)).0 ≡ x
  named x rest fit = ap (λ (p : Bytes × Walk). p.0) (lays_name.back x rest fit)

  -- records of the code that is looked for, and of another
  gather : {A : Type 0} (fits : A → Type 0) (code : ℕ) (spell : A → List ℕ) (name_of : A → Bytes) → ((x : A) → fits x → (judged (name t) (spell x)).0 ≡ name_of x)
      → (xs : List A) (behind : Written) → AllByRecursion fits xs
      → names_of t code (records_put (put (map (λ x. (code, spell x)) xs) behind)) ≡ map name_of xs ++ names_of t code (records_put behind)
  gather fits code spell name_of is [] behind fit = refl
  gather fits code spell name_of is (x ∷ xs) behind fit =
      rw (eq-eqb code code refl, is x fit.0, gather fits code spell name_of is xs behind fit.1) refl

  skip : {A : Type 0} (other code : ℕ) (spell : A → List ℕ) (xs : List A) (behind : Written) → nat_eq other code ≡ false
      → names_of t code (records_put (put (map (λ x. (other, spell x)) xs) behind)) ≡ names_of t code (records_put behind)
  skip other code spell [] behind differs = refl
  skip other code spell (x ∷ xs) behind differs = rw differs (skip other code spell xs behind differs)

  skip_text : (other code : ℕ) (text : Option Bytes) (behind : Written) → nat_eq other code ≡ false
      → names_of t code (records_put (put (text_line t other text) behind)) ≡ names_of t code (records_put behind)
  skip_text other code None behind differs = refl
  skip_text other code (Some x) behind differs = rw differs refl

  skip_bodies : (code : ℕ) (bodies : List (List Line)) → names_of t code (records_put (put_bodies bodies no_more)) ≡ []
  skip_bodies code [] = refl
  skip_bodies code (lines ∷ bodies) = skip_bodies code bodies

  -- the codes of names are those of no text
  record IsGathered (code : ℕ) : Type 0 where
    version : nat_eq 1 code ≡ false
    source : nat_eq 2 code ≡ false
    layout : nat_eq 3 code ≡ false
    triple : nat_eq 4 code ≡ false

  skip_texts : (code : ℕ) (m : Module) (behind : Written) → IsGathered code
      → names_of t code (records_put (put (text_line t 2 m.source ++ text_line t 3 m.layout ++ text_line t 4 m.triple) behind)) ≡ names_of t code (records_put behind)
  skip_texts code m behind differs =
      let a = text_line t 2 m.source in
      let b = text_line t 3 m.layout in
      let c = text_line t 4 m.triple in
      let found = λ (w : Written). names_of t code (records_put w) in
      ap found (put_append (a ++ b) c behind) ∙ ap found (put_append a b (put c behind))
      ∙ skip_text 2 code m.source (put b (put c behind)) differs.source ∙ skip_text 3 code m.layout (put c behind) differs.layout ∙ skip_text 4 code m.triple behind differs.triple

  skip_head : (code : ℕ) (m : Module) (behind : Written) → IsGathered code → names_of t code (records_put (put (head_lines t m) behind)) ≡ names_of t code (records_put behind)
  skip_head code m behind differs = rw differs.version (skip_texts code m behind differs)

  module _ (m : Module) where
    abbrev k : Numbering
    k = numbering m

    abbrev variables : List Line
    variables = map (λ v. (5, (variable t k).spell v)) m.variables

    abbrev functions : List Line
    functions = map (λ f. (6, (function t k).spell (is_some f.body, f))) m.functions

    abbrev aliases : List Line
    aliases = map (λ a. (7, (alias t k).spell a)) m.aliases

    abbrev bodies : Written
    bodies = put_bodies (filter_map (body_of t k) m.functions) no_more

    -- behind the head and the types stand variables, functions, aliases and bodies
    by_kinds : (code : ℕ) → IsGathered code → names_of t code (records_put (put_module t m)) ≡ names_of t code (records_put (put variables (put functions (put aliases bodies))))
    by_kinds code differs =
        let found = λ (w : Written). names_of t code (records_put w) in
        skip_head code m (put_block 17 (put (type_lines t (mentioned m) m) no_more) (put (variables ++ functions ++ aliases) bodies)) differs
        ∙ ap found (put_append (variables ++ functions) aliases bodies) ∙ ap found (put_append variables functions (put aliases bodies))

    pub variables_gathered : AllByRecursion (λ v. IsName t v.name) m.variables → names_of t 5 (records_put (put_module t m)) ≡ map (λ v. v.name) m.variables
    variables_gathered fit =
        by_kinds 5 (record { version = refl; source = refl; layout = refl; triple = refl })
        ∙ gather (λ v. IsName t v.name) 5 (variable t k).spell (λ v. v.name) (λ v fit. named v.name _ fit) m.variables (put functions (put aliases bodies)) fit
        ∙ ap (λ all. map (λ v. v.name) m.variables ++ all)
        (skip 6 5 (λ f. (function t k).spell (is_some f.body, f)) m.functions (put aliases bodies) refl ∙ skip 7 5 (alias t k).spell m.aliases bodies refl ∙ skip_bodies 5 (filter_map (body_of t k) m.functions))
        ∙ append-nil (map (λ v. v.name) m.variables)

    pub functions_gathered : AllByRecursion (λ f. IsName t f.name) m.functions → names_of t 6 (records_put (put_module t m)) ≡ map (λ f. f.name) m.functions
    functions_gathered fit =
        by_kinds 6 (record { version = refl; source = refl; layout = refl; triple = refl })
        ∙ skip 5 6 (variable t k).spell m.variables (put functions (put aliases bodies)) refl
        ∙ gather (λ f. IsName t f.name) 6 (λ f. (function t k).spell (is_some f.body, f)) (λ f. f.name) (λ f fit. named f.name _ fit) m.functions (put aliases bodies) fit
        ∙ ap (λ all. map (λ f. f.name) m.functions ++ all) (skip 7 6 (alias t k).spell m.aliases bodies refl ∙ skip_bodies 6 (filter_map (body_of t k) m.functions))
        ∙ append-nil (map (λ f. f.name) m.functions)

    pub aliases_gathered : AllByRecursion (λ a. IsName t a.name) m.aliases → names_of t 7 (records_put (put_module t m)) ≡ map (λ a. a.name) m.aliases
    aliases_gathered fit =
        by_kinds 7 (record { version = refl; source = refl; layout = refl; triple = refl })
        ∙ skip 5 7 (variable t k).spell m.variables (put functions (put aliases bodies)) refl
        ∙ skip 6 7 (λ f. (function t k).spell (is_some f.body, f)) m.functions (put aliases bodies) refl
        ∙ gather (λ a. IsName t a.name) 7 (alias t k).spell (λ a. a.name) (λ a fit. named a.name _ fit) m.aliases bodies fit
        ∙ ap (λ all. map (λ a. a.name) m.aliases ++ all) (skip_bodies 7 (filter_map (body_of t k) m.functions))
        ∙ append-nil (map (λ a. a.name) m.aliases)
