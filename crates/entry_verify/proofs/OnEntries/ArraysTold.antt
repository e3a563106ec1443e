-- Which types are arrays, by what they are opened.
use Rattle.std.proofs.Common.{◌≡◌, ℕ, Bool, true, false, Option, refl, sym, ap, ◌∙◌, true≢false}
use Rattle.type_table.specs.Tree.{Tree, int, ptr, void, array, struct, named, Trees, TreeBody, opaque_body, fields, Structs, body_of}
use Rattle.type_table.specs.Types.{Types, tree, structs}
use Rattle.module_arena.specs.EntryRules.{is_array_of, is_list_variable}
use Rattle.module_arena.specs.Module.{Constant}
use Rattle.module_arena.specs.TypeTests.{opened, struct_of_body}
use Rattle.entry_verify.specs.Types.Opened.{has_no_parts}

-- an array type
abbrev pub is_array : Tree → Bool
is_array (array n t) = true
is_array _ = false

pub array_opened : (s : Structs) (v u : Tree) (n : ℕ) → opened s v ≡ array n u → v ≡ array n u
array_opened s (int w) u n e = e
array_opened s ptr u n e = e
array_opened s void u n e = e
array_opened s (array m t) u n e = e
array_opened s (struct packed ts) u n e = e
array_opened s (named name) u n e = absurd (by (body_of s name) e)
  where
    by : (b : TreeBody) → struct_of_body name b ≡ array n u → ⊥
    by opaque_body h = true≢false (sym (ap is_array h))
    by (fields packed ts) h = true≢false (sym (ap is_array h))

pub struct_opened : (s : Structs) (v : Tree) (packed : Bool) (ts : Trees) → opened s v ≡ struct packed ts → is_array v ≡ false
struct_opened s (int w) packed ts e = refl
struct_opened s ptr packed ts e = refl
struct_opened s void packed ts e = refl
struct_opened s (array m t) packed ts e = absurd (true≢false (ap is_array e))
struct_opened s (struct p us) packed ts e = refl
struct_opened s (named name) packed ts e = refl

pub other_opened : (s : Structs) (v : Tree) → has_no_parts (opened s v) ≡ true → is_array v ≡ false
other_opened s (int w) e = refl
other_opened s ptr e = refl
other_opened s void e = refl
other_opened s (array m t) e = absurd (true≢false (sym e))
other_opened s (struct p us) e = refl
other_opened s (named name) e = refl

pub no_array_of : (element v : Tree) → is_array v ≡ false → false ≡ is_array_of element v
no_array_of element (int w) e = refl
no_array_of element ptr e = refl
no_array_of element void e = refl
no_array_of element (array m t) e = absurd (true≢false e)
no_array_of element (struct p us) e = refl
no_array_of element (named name) e = refl

pub no_list : (v : Tree) (initialiser : Option Constant) → is_array v ≡ false → false ≡ is_list_variable v initialiser
no_list (int w) initialiser e = refl
no_list ptr initialiser e = refl
no_list void initialiser e = refl
no_list (array m t) initialiser e = absurd (true≢false e)
no_list (struct p us) initialiser e = refl
no_list (named name) initialiser e = refl

-- an array of the table
pub array_in : (t u : Types) (ty part n : ℕ) → t ≡ u → opened (structs t) (tree t ty) ≡ array n (tree t part) → tree u ty ≡ array n (tree u part)
array_in t u ty part n same e =
    ap (λ (v : Types). tree v ty) (sym same) ∙ array_opened (structs t) (tree t ty) (tree t part) n e ∙ ap (λ (v : Types). array n (tree v part)) same

-- no array of the table
pub struct_in : (t u : Types) (ty : ℕ) (packed : Bool) (ts : Trees) → t ≡ u → opened (structs t) (tree t ty) ≡ struct packed ts → is_array (tree u ty) ≡ false
struct_in t u ty packed ts same e = ap (λ (v : Types). is_array (tree v ty)) (sym same) ∙ struct_opened (structs t) (tree t ty) packed ts e

pub other_in : (t u : Types) (ty : ℕ) → t ≡ u → has_no_parts (opened (structs t) (tree t ty)) ≡ true → is_array (tree u ty) ≡ false
other_in t u ty same e = ap (λ (v : Types). is_array (tree v ty)) (sym same) ∙ other_opened (structs t) (tree t ty) e
