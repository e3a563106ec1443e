-- The rows of one part's structs, one behind the other, and those of the parts.
use Rattle.std.proofs.Common.{◌≡◌, ◌⊎◌, inl, inr, ℕ, ◌+◌, ◌<◌, true, false, All, List, [], ◌∷◌, ◌++◌, length, take, Some, sym, ap, ◌∙◌, subst, append-nil, append_assoc, nat_eq, arith}
use Rattle.std.specs.Prelude.{slice_get}
use Rattle.std.proofs.lemmas.List.{length-append, length-map}
use Rattle.std.proofs.lemmas.Option.{slice_get_within}
use Rattle.std.proofs.lemmas.List.Elements.{All-push}
use Rattle.indexmap.specs.IndexSet.{insert_key}
use Rattle.linkage_rules.specs.Entries.{structs_at}
use Rattle.linkage_rules.specs.Ids.{modules}
use Rattle.linkage_rules.specs.Lists.{has}
use Rattle.linkage_rules.specs.declared.symbol.Symbol.{Symbol}
use Rattle.linkage_rules.specs.declared.symbol.Symbol.TheVariants.{Local}
use Rattle.linkage_rules.proofs.Steps.{take_more, take_whole}
use Rattle.module_arena.specs.Lists.{Lists}
use Rattle.module_arena.specs.Module.{Bytes, Module}
use Rattle.module_arena.specs.Sound.{IsSound}
use Rattle.type_table.specs.Tree.{TreeBody}
use Rattle.type_table.specs.Types.{Types, names}
use Rattle.type_table.specs.Shape.{Shape}
use Rattle.link_names.specs.Shapes.Shapes.{AreApart, shapes_of}
use Rattle.link_names.proofs.OnShapes.Grown.{split_at}
use Rattle.link_names.specs.Structs.Shapes.{struct_shape}
use Rattle.link_names.specs.Structs.Walked.{Finds, Remembers}
use Rattle.link_names.specs.declared.structs.walk.ShapeWalk.{ShapeWalk}
use Rattle.link_names.specs.Rows.Numbers.{so_far}
use Rattle.link_names.specs.Rows.Rows.{AddsPart, AreRows, HasName, HasRow, HaveRows, IsNamedAs, IsShapeOf}
use Rattle.link_names.specs.declared.rows.rows.GrowingRows.{GrowingRows}
use Rattle.link_names.proofs.OnRows.Parts.{name_at, part_symbols, rows_stay, shape_is, so_far_more, struct_count_is, symbol_at}
use Rattle.link_names.proofs.OnRows.Rowed.{row_added, row_is, row_stays, rows_kept}

-- ---- one part

-- the structs of the parts before, and the first so many of this one
abbrev pub up_to : List Module → ℕ → ℕ → List Symbol
up_to ms part number = so_far ms part ++ take number (part_symbols ms part)

-- The first so many structs of a part were looked at.
pub record AreAdding (ms : List Module) (part number : ℕ) (t : Types) (walk : ShapeWalk) (now : GrowingRows) (numbers : List ℕ) : Type 0 where
  pub rows : AreRows ms (up_to ms part number) now
  pub remembers : Remembers t walk (shapes_of now.shapes)
  pub one_each : length numbers ≡ number
  pub each : (id row : ℕ) (s : Bytes × TreeBody) → slice_get (structs_at ms part) id ≡ Some s → slice_get numbers id ≡ Some row → HasRow ms (up_to ms part number) (Local part s.0) row

no_row : (row : ℕ) (id : ℕ) (numbers : List ℕ) → numbers ≡ [] → slice_get numbers id ≡ Some row → ⊥
no_row row id numbers e h = none id (ap (λ (l : List ℕ). slice_get l id) (sym e) ∙ h)
  where
    none : (n : ℕ) → slice_get [] n ≡ Some row → ⊥
    none n h = cc

pub adding_none : (ms : List Module) (part : ℕ) (t : Types) (walk : ShapeWalk) (rows : GrowingRows) (numbers : List ℕ) → numbers ≡ [] → AreRows ms (so_far ms part) rows → Remembers t walk (shapes_of rows.shapes) → AreAdding ms part 0 t walk rows numbers
adding_none ms part t walk rows numbers none h remembers = record {
  rows = subst (λ (d : List Symbol). AreRows ms d rows) (sym (append-nil (so_far ms part))) h;
  remembers = remembers;
  one_each = ap length none;
  each = λ id row s e f. absurd (no_row row id numbers none f);
}

module _ (ps : List Lists) (part : ℕ) (a : Lists) (at : slice_get ps part ≡ Some a) where
  abbrev ms : List Module
  ms = modules ps

  -- one struct more
  module _ (number : ℕ) (name : Bytes) (called : slice_get (names a.table) number ≡ Some name) (earlier walk : ShapeWalk) (before found now : GrowingRows) (numbers : List ℕ) (shape row : ℕ)
      (h : AreAdding ms part number a.table earlier before numbers)
      (finds : Finds a.table (shapes_of before.shapes) walk (shapes_of found.shapes) shape (struct_shape a.table number))
      (same_found : found.found.keys ≡ before.found.keys) (same_naming : found.naming ≡ before.naming) (same_names : found.names ≡ before.names)
      (apart : AreApart (shapes_of found.shapes)) (same_shapes : shapes_of now.shapes ≡ shapes_of found.shapes)
      (keys : now.found.keys ≡ insert_key nat_eq found.found.keys shape)
      (here : slice_get now.found.keys row ≡ Some shape)
      (is_new : has nat_eq found.found.keys shape ≡ false → HasName found name now)
      (is_old : has nat_eq found.found.keys shape ≡ true → IsNamedAs found now) where
    within : number < length a.table.structs
    within = let lt = slice_get_within (names a.table) number name called in let many = length-map a.table.structs (λ s. s.0) in omega (arith, lt, many)

    mid : AreRows ms (up_to ms part number) found
    mid = rows_kept ms (up_to ms part number) before found finds.walked.kept same_found same_naming same_names h.rows

    is : IsShapeOf ms (shapes_of found.shapes) shape (Local part name)
    is = shape_is ps part a at finds.walked.remembers.good finds.walked.remembers.within (shapes_of found.shapes) shape number name called within finds.is

    one_further : up_to ms part number ++ Local part name ∷ [] ≡ up_to ms part (number + 1)
    one_further =
        append_assoc (so_far ms part) (take number (part_symbols ms part)) (Local part name ∷ [])
        ∙ ap (λ (l : List Symbol). so_far ms part ++ l) (sym (take_more (part_symbols ms part) number (Local part name) (symbol_at ps part a at number name called)))

    its_row : HasRow ms (up_to ms part number ++ Local part name ∷ []) (Local part name) row
    its_row = row_is ms (up_to ms part number) found now part name shape mid is apart same_shapes keys is_new is_old row here

    each_row : (id r : ℕ) (s : Bytes × TreeBody) → slice_get (structs_at ms part) id ≡ Some s → (slice_get numbers id ≡ Some r) ⊎ ((id ≡ length numbers) × (row ≡ r)) → HasRow ms (up_to ms part (number + 1)) (Local part s.0) r
    each_row id r s e (inl f) =
        subst (λ (d : List Symbol). HasRow ms d (Local part s.0) r) one_further (row_stays ms (up_to ms part number) (Local part name ∷ []) (Local part s.0) r (h.each id r s e f))
    each_row id r s e (inr f) =
        let place = f.0 ∙ h.one_each in
        let its_name = name_at ps part a at number name s called (subst (λ (n : ℕ). slice_get (structs_at ms part) n ≡ Some s) place e) in
        subst (λ (d : List Symbol). HasRow ms d (Local part s.0) r) one_further
        (subst (λ (n : Bytes). HasRow ms (up_to ms part number ++ Local part name ∷ []) (Local part n) r) its_name
        (subst (λ (k : ℕ). HasRow ms (up_to ms part number ++ Local part name ∷ []) (Local part name) k) f.1 its_row))

    pub adding_more : AreAdding ms part (number + 1) a.table walk now (numbers ++ row ∷ [])
    adding_more = record {
      rows = subst (λ (d : List Symbol). AreRows ms d now) one_further (row_added ms (up_to ms part number) found now part name shape mid is apart same_shapes keys is_new is_old);
      remembers = subst (λ (l : List Shape). Remembers a.table walk l) (sym same_shapes) finds.walked.remembers;
      one_each = let many = length-append numbers (row ∷ []) in let so = h.one_each in omega (arith, many, so);
      each = λ id r s e f. each_row id r s e (split_at numbers row r id f);
    }

  -- all of them
  pub adding_all : (number : ℕ) (walk : ShapeWalk) (rows : GrowingRows) (numbers : List ℕ) → number ≡ length a.table.structs → AreAdding ms part number a.table walk rows numbers → AddsPart ms part rows numbers
  adding_all number walk rows numbers end h =
      let count = struct_count_is ps part a at in
      let symbols = length-map (structs_at ms part) (λ (s : Bytes × TreeBody). Local part s.0) in
      let all : number ≡ length (part_symbols ms part) = omega (arith, end, count, symbols) in
      let whole = ap (λ (l : List Symbol). so_far ms part ++ l) (ap (λ (n : ℕ). take n (part_symbols ms part)) all ∙ take_whole (part_symbols ms part)) ∙ sym (so_far_more ps part a at) in
      let so = h.one_each in
      record {
        rows = subst (λ (d : List Symbol). AreRows ms d rows) whole h.rows;
        places = record {
          count = omega (arith, so, end, count);
          each = λ id row s e f. subst (λ (d : List Symbol). HasRow ms d (Local part s.0) row) whole (h.each id row s e f);
        };
      }

-- ---- the parts

-- The first so many parts were looked at.
pub record AreAdded (ps : List Lists) (part : ℕ) (now : GrowingRows) (numbers : List (List ℕ)) : Type 0 where
  pub rows : AreRows (modules ps) (so_far (modules ps) part) now
  pub one_each : length numbers ≡ part
  pub each : (i : ℕ) (list : List ℕ) → slice_get numbers i ≡ Some list → HaveRows (modules ps) (so_far (modules ps) part) i list
  pub sound : All IsSound (take part ps)

pub added_more : (ps : List Lists) (part : ℕ) (a : Lists) (before now : GrowingRows) (numbers : List (List ℕ)) (list : List ℕ) → slice_get ps part ≡ Some a → IsSound a
    → AreAdded ps part before numbers → AddsPart (modules ps) part now list → AreAdded ps (part + 1) now (numbers ++ list ∷ [])
added_more ps part a before now numbers list at sound h adds = record {
  rows = adds.rows;
  one_each = let many = length-append numbers (list ∷ []) in let so = h.one_each in omega (arith, many, so);
  each = λ i l e. each_part i l (split_at numbers list l i e);
  sound = subst (All IsSound) (sym (take_more ps part a at)) (All-push IsSound (take part ps) a h.sound sound);
}
  where
    each_part : (i : ℕ) (l : List ℕ) → (slice_get numbers i ≡ Some l) ⊎ ((i ≡ length numbers) × (list ≡ l)) → HaveRows (modules ps) (so_far (modules ps) (part + 1)) i l
    each_part i l (inl e) =
        subst (λ (d : List Symbol). HaveRows (modules ps) d i l) (sym (so_far_more ps part a at)) (rows_stay (modules ps) (so_far (modules ps) part) (part_symbols (modules ps) part) i l (h.each i l e))
    each_part i l (inr e) =
        subst (λ (n : ℕ). HaveRows (modules ps) (so_far (modules ps) (part + 1)) n l) (sym (e.0 ∙ h.one_each))
        (subst (λ (k : List ℕ). HaveRows (modules ps) (so_far (modules ps) (part + 1)) part k) e.1 adds.places)
