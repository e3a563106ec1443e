-- One struct more, whose shape has a number.
use Rattle.std.proofs.Common.{◌≡◌, ℕ, zero, suc, Bool, true, false, ◌||◌, List, [], ◌∷◌, ◌++◌, map, Some, refl, sym, ap, ap₂, ◌∙◌, subst, bytes_eq, nat_eq}
use Rattle.std.specs.Prelude.{slice_get}
use Rattle.std.specs.List.{list_any}
use Rattle.std.proofs.lemmas.Bool.{and_from, both_ways, cond-true, cond-false, eqb-true, false_from_ne_true}
use Rattle.std.proofs.lemmas.Cmp.{nat_eq_equiv}
use Rattle.std.proofs.lemmas.List.{map-append}
use Rattle.std.proofs.lemmas.Option.{same_Some}
use Rattle.indexmap.specs.IndexSet.{insert_key}
use Rattle.linkage_rules.specs.Entries.{symbol_name}
use Rattle.linkage_rules.specs.Lists.{firsts, has}
use Rattle.linkage_rules.specs.SameShape.{alike}
use Rattle.linkage_rules.specs.SymbolLaws.{name_self}
use Rattle.linkage_rules.specs.declared.symbol.Symbol.{Symbol}
use Rattle.linkage_rules.specs.declared.symbol.Symbol.TheVariants.{Shared, Local}
use Rattle.linkage_rules.proofs.Shapes.{alike_self}
use Rattle.module_arena.specs.Module.{Bytes, Module}
use Rattle.link_rules.specs.Rename.{with_given_names, new_name, given_after}
use Rattle.link_rules.specs.Structs.{same_struct, shape_of}
use Rattle.link_rules.proofs.Merged.{named_append}
use Rattle.link_rules.proofs.StructRows.{key, key_exact, same_key}
use Rattle.type_table.specs.Shape.{Shape}
use Rattle.link_names.specs.Shapes.Shapes.{AreApart, shapes_of}
use Rattle.link_names.specs.Naming.{TakenNames}
use Rattle.link_names.specs.Structs.Shapes.{AreKept}
use Rattle.link_names.specs.Rows.Numbers.{all_struct_names}
use Rattle.link_names.specs.Rows.Rows.{AreRows, AreShapesOf, HasName, HasRow, IsNamedAs, IsShapeOf, first_of_each, names_given, top_label}
use Rattle.link_names.specs.declared.rows.rows.GrowingRows.{GrowingRows}
use Rattle.link_names.proofs.OnRows.Firsts.{firsts_before, firsts_more, still_at, with_one}
use Rattle.link_names.proofs.OnRows.Fresh.{new_name_same}

-- ---- shapes and their numbers

module _ (parts : List Module) where
  shape_kept : (before now : List Shape) → AreKept before now → (number : ℕ) (s : Symbol) → IsShapeOf parts before number s → IsShapeOf parts now number s
  shape_kept before now kept number s h = record { shape = h.shape; at = kept number h.shape h.at; is = h.is; label = h.label }

  shapes_kept : (before now : List Shape) → AreKept before now → (numbers : List ℕ) (ss : List Symbol) → AreShapesOf parts before numbers ss → AreShapesOf parts now numbers ss
  shapes_kept before now kept [] [] h = tt
  shapes_kept before now kept [] (s ∷ ss) h = absurd h
  shapes_kept before now kept (number ∷ numbers) [] h = absurd h
  shapes_kept before now kept (number ∷ numbers) (s ∷ ss) h = (shape_kept before now kept number s h.0, shapes_kept before now kept numbers ss h.1)

  -- rows stay where more shapes have numbers
  pub rows_kept : (done : List Symbol) (before now : GrowingRows) → AreKept (shapes_of before.shapes) (shapes_of now.shapes) → now.found.keys ≡ before.found.keys → now.naming ≡ before.naming → now.names ≡ before.names → AreRows parts done before → AreRows parts done now
  rows_kept done before now kept found naming names h = record {
    found = subst (λ (l : List ℕ). AreShapesOf parts (shapes_of now.shapes) l (first_of_each parts done)) (sym found) (shapes_kept (shapes_of before.shapes) (shapes_of now.shapes) kept before.found.keys (first_of_each parts done) h.found);
    names = names ∙ h.names;
    given = λ m. ap (λ (v : TakenNames). has bytes_eq v.given m) naming ∙ h.given m;
    avoided = λ m. ap (λ (v : TakenNames). has bytes_eq v.avoided m) naming ∙ h.avoided m;
  }

  module _ (all : List Shape) where
    -- structs of one number are one
    same_number : (number : ℕ) (s t : Symbol) → IsShapeOf parts all number s → IsShapeOf parts all number t → same_struct parts s t ≡ true
    same_number number s t a b =
        let shapes = same_Some a.shape b.shape (sym a.at ∙ b.at) in
        let names = same_Some (symbol_name s) (symbol_name t) (sym a.label ∙ ap top_label shapes ∙ b.label) in
        and_from _ _
        (subst (λ (n : Bytes). bytes_eq (symbol_name s) n ≡ true) names (name_self (symbol_name s)))
        (subst (λ o. alike (shape_of parts s) o ≡ true) (a.is ∙ ap Some shapes ∙ sym b.is) (alike_self (shape_of parts s)))

    module _ (apart : AreApart all) where
      -- structs that are one have one number
      one_number : (m n : ℕ) (s t : Symbol) → IsShapeOf parts all m s → IsShapeOf parts all n t → same_struct parts s t ≡ true → m ≡ n
      one_number m n s t a b h =
          let keys = key_exact (key parts s) (key parts t) h in
          let shapes = same_Some a.shape b.shape (sym a.is ∙ ap (λ k. k.1) keys ∙ b.is) in
          apart m n b.shape (a.at ∙ ap Some shapes) b.at

      test_is : (m n : ℕ) (s t : Symbol) → IsShapeOf parts all m s → IsShapeOf parts all n t → nat_eq m n ≡ same_struct parts t s
      test_is m n s t a b = go (nat_eq m n) refl
        where
          go : (c : Bool) → nat_eq m n ≡ c → nat_eq m n ≡ same_struct parts t s
          go true e = e ∙ sym (same_number m t s (subst (λ (k : ℕ). IsShapeOf parts all k t) (sym (eqb-true m n e)) b) a)
          go false e = e ∙ sym (false_from_ne_true (same_struct parts t s) (λ h. both_ways (nat_eq m n) e (subst (λ (k : ℕ). nat_eq m k ≡ true) (sym (one_number n m t s b a h)) (nat_eq_equiv.refl m))))

      found_is : (number : ℕ) (s : Symbol) → IsShapeOf parts all number s → (numbers : List ℕ) (ss : List Symbol) → AreShapesOf parts all numbers ss
          → list_any (nat_eq number) numbers ≡ list_any (λ t. same_struct parts t s) ss
      found_is number s a [] [] h = refl
      found_is number s a [] (t ∷ ss) h = absurd h
      found_is number s a (n ∷ numbers) [] h = absurd h
      found_is number s a (n ∷ numbers) (t ∷ ss) h = ap₂ (λ b c. b || c) (test_is number n s t a h.0) (found_is number s a numbers ss h.1)

    shapes_more : (numbers : List ℕ) (ss : List Symbol) (number : ℕ) (s : Symbol) → AreShapesOf parts all numbers ss → IsShapeOf parts all number s → AreShapesOf parts all (numbers ++ number ∷ []) (ss ++ s ∷ [])
    shapes_more [] [] number s h a = (a, tt)
    shapes_more [] (t ∷ ss) number s h a = absurd h
    shapes_more (n ∷ numbers) [] number s h a = absurd h
    shapes_more (n ∷ numbers) (t ∷ ss) number s h a = (h.0, shapes_more numbers ss number s h.1 a)

    shape_at : (numbers : List ℕ) (ss : List Symbol) (row number : ℕ) → AreShapesOf parts all numbers ss → slice_get numbers row ≡ Some number → (t : Symbol) × (slice_get ss row ≡ Some t) × IsShapeOf parts all number t
    shape_at [] ss row number h e = cc
    shape_at (n ∷ numbers) [] row number h e = absurd h
    shape_at (n ∷ numbers) (t ∷ ss) zero number h e = (t, refl, subst (λ (k : ℕ). IsShapeOf parts all k t) (same_Some n number e) h.0)
    shape_at (n ∷ numbers) (t ∷ ss) (suc row) number h e = shape_at numbers ss row number h.1 e

  -- what is one with a struct that is one with a third is one with the third
  through : (s t u : Symbol) → same_struct parts s t ≡ true → same_struct parts t u ≡ true → same_struct parts s u ≡ true
  through s t u h k =
      let one = key_exact (key parts s) (key parts t) h in
      subst (λ a. same_key a (key parts u) ≡ true) (sym one) k

  -- more structs change no row
  pub row_stays : (done more : List Symbol) (s : Symbol) (row : ℕ) → HasRow parts done s row → HasRow parts (done ++ more) s row
  row_stays done more s row h =
      let rest = firsts_before (same_struct parts) done more in
      record {
        first = h.first;
        at = subst (λ (l : List Symbol). slice_get l row ≡ Some h.first) (sym rest.1) (still_at (first_of_each parts done) rest.0 row h.first h.at);
        same = h.same;
      }

  -- ---- names

  abbrev everywhere : List Bytes
  everywhere = all_struct_names parts

  given_more : (given : List Bytes) (ss : List Symbol) (i : ℕ) (name : Bytes)
      → given_after (λ n. n) everywhere given (ss ++ Local i name ∷ []) ≡ new_name (λ n. n) everywhere (given_after (λ n. n) everywhere given ss) name ∷ given_after (λ n. n) everywhere given ss
  given_more given [] i name = refl
  given_more given (Shared n ∷ ss) i name = given_more given ss i name
  given_more given (Local j n ∷ ss) i name = given_more (new_name (λ m. m) everywhere given n ∷ given) ss i name

  names_more : (ss : List Symbol) (i : ℕ) (name : Bytes) → names_given parts (ss ++ Local i name ∷ []) ≡ names_given parts ss ++ new_name (λ n. n) everywhere (given_after (λ n. n) everywhere [] ss) name ∷ []
  names_more ss i name =
      ap (map (λ (r : Symbol × Bytes). r.1)) (named_append (λ n. n) everywhere [] ss (Local i name ∷ []))
      ∙ map-append (λ (r : Symbol × Bytes). r.1) (with_given_names (λ n. n) everywhere [] ss) ((Local i name, new_name (λ n. n) everywhere (given_after (λ n. n) everywhere [] ss) name) ∷ [])

-- ---- one struct more

shapes_are : (parts : List Module) (all now : List Shape) (numbers numbers' : List ℕ) (ss ss' : List Symbol) → now ≡ all → numbers' ≡ numbers → ss' ≡ ss → AreShapesOf parts all numbers ss → AreShapesOf parts now numbers' ss'
shapes_are parts all now numbers numbers' ss ss' a n s h =
    subst (λ (l : List Shape). AreShapesOf parts l numbers' ss') (sym a)
    (subst (λ (l : List ℕ). AreShapesOf parts all l ss') (sym n) (subst (λ (l : List Symbol). AreShapesOf parts all numbers l) (sym s) h))

module _ (parts : List Module) (done : List Symbol) (before now : GrowingRows) (i : ℕ) (name : Bytes) (number : ℕ) where
  abbrev s : Symbol
  s = Local i name

  abbrev old : List Symbol
  old = first_of_each parts done

  abbrev new : List Symbol
  new = first_of_each parts (done ++ s ∷ [])

  -- the struct is one with an earlier
  row_again : AreRows parts done before → shapes_of now.shapes ≡ shapes_of before.shapes → now.found.keys ≡ before.found.keys → new ≡ old → IsNamedAs before now → AreRows parts (done ++ s ∷ []) now
  row_again h shapes found firsts named = record {
    found = shapes_are parts (shapes_of before.shapes) (shapes_of now.shapes) before.found.keys now.found.keys old new shapes found firsts h.found;
    names = named.names ∙ h.names ∙ ap (names_given parts) (sym firsts);
    given = λ m. ap (λ (v : TakenNames). has bytes_eq v.given m) named.naming ∙ h.given m ∙ ap (λ (l : List Symbol). has bytes_eq (given_after (λ n. n) (everywhere parts) [] l) m) (sym firsts);
    avoided = λ m. ap (λ (v : TakenNames). has bytes_eq v.avoided m) named.naming ∙ h.avoided m;
  }

  -- it is one with none
  row_new : AreRows parts done before → IsShapeOf parts (shapes_of before.shapes) number s → shapes_of now.shapes ≡ shapes_of before.shapes → now.found.keys ≡ before.found.keys ++ number ∷ [] → new ≡ old ++ s ∷ [] → HasName before name now → AreRows parts (done ++ s ∷ []) now
  row_new h a shapes found firsts named =
      let is : named.new ≡ new_name (λ n. n) (everywhere parts) (given_after (λ n. n) (everywhere parts) [] old) name
      = named.is ∙ new_name_same (λ n. n) before.naming.given (given_after (λ n. n) (everywhere parts) [] old) before.naming.avoided (everywhere parts) name h.given h.avoided in
      record {
        found = shapes_are parts (shapes_of before.shapes) (shapes_of now.shapes) (before.found.keys ++ number ∷ []) now.found.keys (old ++ s ∷ []) new shapes found firsts (shapes_more parts (shapes_of before.shapes) before.found.keys old number s h.found a);
        names = named.names ∙ ap (λ (l : List Bytes). l ++ named.new ∷ []) h.names ∙ ap (λ (n : Bytes). names_given parts old ++ n ∷ []) is ∙ sym (names_more parts old i name) ∙ ap (names_given parts) (sym firsts);
        given = λ m.
            named.given m ∙ ap (λ (b : Bool). bytes_eq m named.new || b) (h.given m) ∙ ap (λ (n : Bytes). has bytes_eq (n ∷ given_after (λ n. n) (everywhere parts) [] old) m) is
            ∙ ap (λ (l : List Bytes). has bytes_eq l m) (sym (given_more parts [] old i name))
            ∙ ap (λ (l : List Symbol). has bytes_eq (given_after (λ n. n) (everywhere parts) [] l) m) (sym firsts);
        avoided = λ m. ap (λ (l : List Bytes). has bytes_eq l m) named.avoided ∙ h.avoided m;
      }

  module _ (h : AreRows parts done before) (a : IsShapeOf parts (shapes_of before.shapes) number s) (apart : AreApart (shapes_of before.shapes)) (shapes : shapes_of now.shapes ≡ shapes_of before.shapes)
      (found : now.found.keys ≡ insert_key nat_eq before.found.keys number)
      (is_new : has nat_eq before.found.keys number ≡ false → HasName before name now)
      (is_old : has nat_eq before.found.keys number ≡ true → IsNamedAs before now) where
    pub row_added : AreRows parts (done ++ s ∷ []) now
    row_added = go (has nat_eq before.found.keys number) refl
      where
        firsts : new ≡ with_one (same_struct parts) (list_any (λ t. same_struct parts t s) old) old s
        firsts = firsts_more (same_struct parts) (through parts) done s

        there : has nat_eq before.found.keys number ≡ list_any (λ t. same_struct parts t s) old
        there = found_is parts (shapes_of before.shapes) apart number s a before.found.keys old h.found

        go : (b : Bool) → has nat_eq before.found.keys number ≡ b → AreRows parts (done ++ s ∷ []) now
        go true e =
            row_again h shapes (found ∙ cond-true (has nat_eq before.found.keys number) _ _ e) (firsts ∙ cond-true (list_any (λ t. same_struct parts t s) old) _ _ (sym there ∙ e)) (is_old e)
        go false e =
            row_new h a shapes (found ∙ cond-false (has nat_eq before.found.keys number) _ _ e) (firsts ∙ cond-false (list_any (λ t. same_struct parts t s) old) _ _ (sym there ∙ e)) (is_new e)

    -- its row is that of the number
    pub row_is : (row : ℕ) → slice_get now.found.keys row ≡ Some number → HasRow parts (done ++ s ∷ []) s row
    row_is row e =
        let there = shape_at parts (shapes_of now.shapes) now.found.keys new row number row_added.found e in
        record {
          first = there.0;
          at = there.1;
          same = same_number parts (shapes_of now.shapes) number s there.0 (subst (λ (l : List Shape). IsShapeOf parts l number s) (sym shapes) a) there.2;
        }
