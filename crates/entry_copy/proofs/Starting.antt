-- For those who copy: what holds before anything is copied, and that it goes on to hold where structs get their bodies and
-- entries are declared and completed.
use Rattle.std.proofs.Common.{◌≡◌, ℕ, ◌<◌, List, [], map, length, get_or, slice_get, All, Some, sym, ap, ◌∙◌, subst, arith}
use Rattle.std.specs.List.{fold}
use Rattle.std.proofs.lemmas.List.{length-map, map-append}
use Rattle.std.proofs.lemmas.List.Elements.{All-nil, All-weaker}
use Rattle.std.proofs.lemmas.Option.{slice_get-get_or}
use Rattle.type_table.specs.Limits.{IsWithinLimits, IsWithin}
use Rattle.type_table.specs.Shape.{shape}
use Rattle.type_table.specs.Tree.{Tree, named}
use Rattle.type_table.specs.Types.{names, trees, structs}
use Rattle.type_table.proofs.Judged.{All-left}
use Rattle.module_arena.specs.declared.entry.GlobalId.{GlobalId}
use Rattle.module_arena.specs.Known.{counts, HasGlobal}
use Rattle.module_arena.specs.Lists.{Lists, name_at}
use Rattle.module_arena.specs.Module.{Bytes, Constant}
use Rattle.module_arena.specs.Renamed.{renamed_tree, own}
use Rattle.module_arena.specs.View.{type_at, constant_at, constants_of, grow}
use Rattle.module_arena.proofs.Renamed.{tree_stays}
use Rattle.item_build.specs.Types.Stands.{IsType, IsConstant}
use Rattle.item_build.proofs.OnTypes.Declaring.{all_mapped}
use Rattle.entry_copy.specs.Copies.{CopiesTypes, CopiesConstants, Copies, AllFit}
use Rattle.entry_copy.specs.Tables.{Tables, tables_of, new_struct, new_global}

-- ---- before anything is copied

pub no_types_copied : (naming : Bytes → Bytes) (a b : Lists) (ids : List ℕ)
    → ((id : ℕ) → id < length a.table.structs → slice_get (names b.table) (new_struct (tables_of ids) id) ≡ Some (naming (get_or (names a.table) id [])))
    → CopiesTypes naming a b (tables_of ids)
no_types_copied naming a b ids called = record { named = called; few_types = omega arith; types = λ id lt. absurd (omega (arith, lt)) }

pub no_constants_copied : (naming calling : Bytes → Bytes) (a b : Lists) (t : Tables) → t.constants ≡ []
    → ((g h : GlobalId) → HasGlobal (counts a) g → new_global t g ≡ Some h → HasGlobal (counts b) h × (name_at b h ≡ calling (name_at a g)))
    → CopiesConstants naming calling a b t
no_constants_copied naming calling a b t none entries =
    let many : length t.constants ≡ 0 = ap length none in
    record {
      entries = entries;
      few_constants = omega (arith, many);
      known = subst (All (λ id. id < length b.constants)) (sym none) (All-nil (λ id. id < length b.constants));
      constants = λ id lt k. absurd (omega (arith, many, lt));
    }

-- structs that keep their ids and their names
pub structs_keep_names : (a b : Lists) → names b.table ≡ names a.table → (id : ℕ) → id < length a.table.structs
    → slice_get (names b.table) (new_struct (tables_of []) id) ≡ Some (own (get_or (names a.table) id []))
structs_keep_names a b same id lt =
    let long = length-map a.table.structs (λ s. s.0) in
    ap (λ ns. slice_get ns id) same ∙ slice_get-get_or (names a.table) id [] (omega (arith, lt, long))

-- the types of an arena fit where nothing has another name
pub own_types_fit : (a : Lists) → IsWithin a.table → AllFit own (structs a.table) a
own_types_fit a within =
    let S = shape (structs a.table) in
    let ns = map named (names a.table) in
    let all = subst (All IsWithinLimits) (map-append S (trees a.table) ns) within.fits in
    let old = all_mapped S IsWithinLimits (trees a.table) (All-left IsWithinLimits (map S (trees a.table)) (map S ns) all) in
    All-weaker (λ x. IsWithinLimits (S x)) (λ x. IsWithinLimits (S (renamed_tree own x))) (λ x h. subst (λ y. IsWithinLimits (S y)) (sym (tree_stays x)) h) (trees a.table) old

-- ---- what is copied stays where the types, the constants and the names of the entries are the same

module _ (b c : Lists) (trees_same : trees c.table ≡ trees b.table) (as_many_types : length c.table.types ≡ length b.table.types) where
  pub type_still : (id : ℕ) (x : Tree) → IsType b id x → IsType c id x
  type_still id x h = record {
    known = (let lt = h.known in let e = as_many_types in omega (arith, lt, e));
    tree = ap (λ ts. type_at ts id) trees_same ∙ h.tree;
  }

  pub types_still_copied : (naming : Bytes → Bytes) (a : Lists) (t : Tables) → names c.table ≡ names b.table → CopiesTypes naming a b t → CopiesTypes naming a c t
  types_still_copied naming a t names_same h = record {
    named = λ id lt. ap (λ ns. slice_get ns (new_struct t id)) names_same ∙ h.named id lt;
    few_types = h.few_types;
    types = λ id lt. type_still _ _ (h.types id lt);
  }

module _ (b c : Lists) (tables_same : c.table ≡ b.table) (constants_same : c.constants ≡ b.constants) (as_many : counts c ≡ counts b) (called_same : (g : GlobalId) → name_at c g ≡ name_at b g) where
  pub constants_of_same : constants_of c ≡ constants_of b
  constants_of_same = λ j. fold (grow (trees (tables_same j)) (λ g. called_same g j)) [] (constants_same j)

  pub constant_still : (id : ℕ) (x : Constant) → IsConstant b id x → IsConstant c id x
  constant_still id x h = record {
    known = subst (λ xs. id < length xs) (sym constants_same) h.known;
    constant = ap (λ cs. constant_at cs id) constants_of_same ∙ h.constant;
  }

  pub constants_still_copied : (naming calling : Bytes → Bytes) (a : Lists) (t : Tables) → CopiesConstants naming calling a b t → CopiesConstants naming calling a c t
  constants_still_copied naming calling a t h = record {
    entries = λ x y lt e. let old = h.entries x y lt e in (subst (λ n. HasGlobal n y) (sym as_many) old.0, called_same y ∙ old.1);
    few_constants = h.few_constants;
    known = subst (λ xs. All (λ id. id < length xs) t.constants) (sym constants_same) h.known;
    constants = λ id lt k. constant_still _ _ (h.constants id lt k);
  }

  pub still_copied : (naming calling : Bytes → Bytes) (a : Lists) (t : Tables) → Copies naming calling a b t → Copies naming calling a c t
  still_copied naming calling a t h = record {
    types = types_still_copied b c (ap trees tables_same) (ap (λ x. length x.types) tables_same) naming a t (ap names tables_same) h.types;
    constants = constants_still_copied naming calling a t h.constants;
    all_types = h.all_types;
    all_constants = h.all_constants;
  }
