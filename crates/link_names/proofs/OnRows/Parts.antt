-- The structs of a part: their symbols, their shapes, and the rows of all parts so far.
use Rattle.std.proofs.Common.{◌≡◌, ℕ, zero, suc, ◌+◌, ◌<◌, ◌≤◌, List, [], ◌∷◌, ◌++◌, length, map, take, get_or, Some, None, refl, sym, ap, ◌∙◌, append-nil, append_assoc, option_map, arith}
use Rattle.std.specs.Prelude.{slice_get}
use Rattle.std.proofs.lemmas.List.{length-map}
use Rattle.std.proofs.lemmas.Option.{get_or_from_slice_get, same_Some, slice_get-map, slice_get_within}
use Rattle.linkage_rules.specs.Entries.{structs_at}
use Rattle.linkage_rules.specs.Ids.{modules}
use Rattle.linkage_rules.specs.declared.symbol.Symbol.{Symbol}
use Rattle.linkage_rules.specs.declared.symbol.Symbol.TheVariants.{Local}
use Rattle.linkage_rules.proofs.Steps.{take_more}
use Rattle.module_arena.specs.Lists.{Lists}
use Rattle.module_arena.specs.Module.{Bytes, Module, empty_module}
use Rattle.module_arena.specs.View.{module_of}
use Rattle.link_rules.specs.Structs.{structs_from}
use Rattle.type_table.specs.Limits.{IsWithin}
use Rattle.type_table.specs.Shape.{Label, Shape, opaque_leaf, struct_of, body_shape, all_expanded, named_shape}
use Rattle.type_table.specs.Tree.{TreeBody, opaque_body, fields, named}
use Rattle.type_table.specs.Types.{Types, IsGood, bodies, names, structs, tree_body, tree_struct, trees}
use Rattle.type_table.proofs.Rooms.{unmapped}
use Rattle.module_arena.proofs.ModuleSet.{map_map}
use Rattle.link_names.specs.Structs.Shapes.{IsNumber, struct_shape}
use Rattle.link_names.proofs.OnStructs.Shaped.{look, struct_is}
use Rattle.link_names.specs.Rows.Numbers.{so_far}
use Rattle.link_names.specs.Rows.Rows.{HaveRows, IsShapeOf, top_label}
use Rattle.link_names.proofs.OnRows.Rowed.{row_stays}

-- ---- lists

taken_length : {A : Type 0} (xs : List A) (k : ℕ) → k ≤ length xs → length (take k xs) ≡ k
taken_length xs zero h = refl
taken_length [] (suc k) h = absurd (omega (arith, h))
taken_length (x ∷ xs) (suc k) h = ap suc (taken_length xs k (omega (arith, h)))

-- ---- a part's structs

-- the structs of a part, as symbols
abbrev pub part_symbols : List Module → ℕ → List Symbol
part_symbols ms i = map (λ s. Local i s.0) (structs_at ms i)

structs_joined : (i k : ℕ) (ms : List Module) (m : Module) → k ≡ i + length ms → structs_from i (ms ++ m ∷ []) ≡ structs_from i ms ++ map (λ s. Local k s.0) m.structs
structs_joined i k [] m e =
    let same : i ≡ k = omega (arith, e) in
    append-nil (map (λ s. Local i s.0) m.structs) ∙ ap (λ (n : ℕ). map (λ s. Local n s.0) m.structs) same
structs_joined i k (x ∷ ms) m e =
    ap (λ (l : List Symbol). map (λ s. Local i s.0) x.structs ++ l) (structs_joined (suc i) k ms m (omega (arith, e)))
    ∙ sym (append_assoc (map (λ s. Local i s.0) x.structs) (structs_from (suc i) ms) (map (λ s. Local k s.0) m.structs))

module _ (ps : List Lists) (part : ℕ) (a : Lists) (at : slice_get ps part ≡ Some a) where
  module_at : slice_get (modules ps) part ≡ Some (module_of a)
  module_at = slice_get-map module_of ps part ∙ ap (option_map module_of) at

  pub part_is : structs_at (modules ps) part ≡ structs a.table
  unfolding module_of
  part_is = ap (λ (m : Module). m.structs) (get_or_from_slice_get (modules ps) part (module_of a) empty_module module_at)

  -- one part more
  pub so_far_more : so_far (modules ps) (part + 1) ≡ so_far (modules ps) part ++ part_symbols (modules ps) part
  unfolding module_of
  so_far_more =
      let lt = slice_get_within (modules ps) part (module_of a) module_at in
      ap (structs_from 0) (take_more (modules ps) part (module_of a) module_at)
      ∙ structs_joined 0 part (take part (modules ps)) (module_of a) (let e = taken_length (modules ps) part (omega (arith, lt)) in omega (arith, e))
      ∙ ap (λ l. so_far (modules ps) part ++ map (λ s. Local part s.0) l) (sym part_is)

  pub symbols_are : part_symbols (modules ps) part ≡ map (Local part) (names a.table)
  symbols_are =
      ap (λ l. map (λ s. Local part s.0) l) part_is
      ∙ map_map (λ s. Local part s.0) (tree_struct (trees a.table)) a.table.structs
      ∙ sym (map_map (Local part) (λ s. s.0) a.table.structs)

  pub symbol_at : (id : ℕ) (name : Bytes) → slice_get (names a.table) id ≡ Some name → slice_get (part_symbols (modules ps) part) id ≡ Some (Local part name)
  symbol_at id name called = ap (λ (l : List Symbol). slice_get l id) symbols_are ∙ slice_get-map (Local part) (names a.table) id ∙ ap (option_map (Local part)) called

  -- the name of a struct of the module
  pub name_at : (id : ℕ) (name : Bytes) (s : Bytes × TreeBody) → slice_get (names a.table) id ≡ Some name → slice_get (structs_at (modules ps) part) id ≡ Some s → name ≡ s.0
  name_at id name s called at =
      same_Some name s.0
      (sym called ∙ ap (λ (l : List Bytes). slice_get l id) (sym (map_map (λ (x : Bytes × TreeBody). x.0) (tree_struct (trees a.table)) a.table.structs))
      ∙ slice_get-map (λ (x : Bytes × TreeBody). x.0) (structs a.table) id ∙ ap (λ l. option_map (λ (x : Bytes × TreeBody). x.0) (slice_get l id)) (sym part_is)
      ∙ ap (option_map (λ (x : Bytes × TreeBody). x.0)) at)

  pub struct_count_is : length (structs_at (modules ps) part) ≡ length a.table.structs
  struct_count_is = ap (λ l. length l) part_is ∙ length-map a.table.structs (tree_struct (trees a.table))

  -- ---- shapes

  body_label : (t : Types) (l : Label) (b : TreeBody) (s : Shape) → body_shape (look t) l b ≡ Some s → top_label s ≡ l
  body_label t l opaque_body s e = ap top_label (sym (same_Some (opaque_leaf l) s e))
  body_label t l (fields packed ts) s e = ap top_label (sym (unmapped (struct_of l packed) (all_expanded (look t) ts) s e).2)

  pub shape_is : IsGood a.table → IsWithin a.table → (all : List Shape) (number id : ℕ) (name : Bytes) → slice_get (names a.table) id ≡ Some name → id < length a.table.structs
      → IsNumber all number (struct_shape a.table id) → IsShapeOf (modules ps) all number (Local part name)
  shape_is good within all number id name called lt h =
      let t = a.table in
      let n = get_or_from_slice_get (names t) id name [] called in
      record {
        shape = h.0;
        at = h.1;
        is = ap (λ l. named_shape l (named name)) part_is ∙ ap (λ (x : Bytes). named_shape (structs t) (named x)) (sym n) ∙ h.2;
        label = body_label t (Some (get_or (names t) id [])) (tree_body (trees t) (get_or (bodies t) id None)) h.0 (sym (struct_is t good within id lt) ∙ h.2) ∙ ap (λ (x : Bytes). Some x) n;
      }

-- ---- rows of parts

module _ (ms : List Module) where
  pub rows_stay : (done more : List Symbol) (part : ℕ) (numbers : List ℕ) → HaveRows ms done part numbers → HaveRows ms (done ++ more) part numbers
  rows_stay done more part numbers h = record {
    count = h.count;
    each = λ id row s e f. row_stays ms done more (Local part s.0) row (h.each id row s e f);
  }
