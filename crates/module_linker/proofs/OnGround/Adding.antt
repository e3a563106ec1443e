-- One part more is copied.
use Rattle.std.proofs.Common.{◌≡◌, ◌⊎◌, inl, inr, ℕ, zero, suc, ◌<◌, List, [], ◌∷◌, ◌++◌, length, Some, refl, sym, ap, ◌∙◌, subst, arith}
use Rattle.std.specs.Prelude.{slice_get}
use Rattle.std.proofs.lemmas.List.{length-map}
use Rattle.std.proofs.lemmas.List.Elements.{All-nil, All-cons, All-append}
use Rattle.std.proofs.lemmas.Option.{same_Some, slice_get_within}
use Rattle.type_table.specs.Tree.{TreeBody, Structs}
use Rattle.type_table.specs.Types.{names}
use Rattle.module_arena.specs.Lists.{Lists}
use Rattle.module_arena.specs.Module.{Bytes, Module}
use Rattle.linkage_rules.specs.Ids.{modules}
use Rattle.link_rules.specs.Linked.{link_result}
use Rattle.link_rules.specs.Structs.{new_struct}
use Rattle.item_build.proofs.OnTypes.Staying.{names_same}
use Rattle.item_build.specs.Partly.{IsDone}
use Rattle.entry_copy.specs.Copies.{CopiesTypes}
use Rattle.entry_copy.specs.Tables.{Tables, tables_of, with_types}
use Rattle.entry_copy.specs.Tables as tables
use Rattle.module_linker.specs.Stages.Ground.{HasTypes}
use Rattle.module_linker.specs.Parts.Bodies.{IsMaking}
use Rattle.module_linker.specs.Parts.Named.{AreDone}
use Rattle.module_linker.specs.Ground.Making.{IsMade}

-- what stands at a place where there is one more at the end
at_more : {A : Type 0} (xs : List A) (x y : A) (id : ℕ) → slice_get (xs ++ x ∷ []) id ≡ Some y → (slice_get xs id ≡ Some y) ⊎ ((id ≡ length xs) × (x ≡ y))
at_more [] x y zero h = inr (refl, same_Some x y h)
at_more [] x y (suc id) h = cc
at_more (z ∷ xs) x y zero h = inl h
at_more (z ∷ xs) x y (suc id) h = later (at_more xs x y id h)
  where
    later : (slice_get xs id ≡ Some y) ⊎ ((id ≡ length xs) × (x ≡ y)) → (slice_get xs id ≡ Some y) ⊎ ((suc id ≡ suc (length xs)) × (x ≡ y))
    later (inl e) = inl e
    later (inr e) = inr (ap suc e.0, e.1)

module _ (parts : List Lists) (part : ℕ) (a b b1 : Lists) (before : List Tables) (numbers : List ℕ) (t : Tables) (made : IsMade parts b before) (here : slice_get parts part ≡ Some a) (next : part ≡ length before)
    (making : IsMaking (modules parts) part a b1 t) (others : t ≡ with_types (tables_of numbers) t.types) (all : length t.types ≡ length a.table.types) (done : AreDone (modules parts) a b1 t)
    (still : (naming : Bytes → Bytes) (x : Lists) (y : Tables) → CopiesTypes naming x b y → CopiesTypes naming x b1 y)
    (kept : (other : ℕ) → other < length (link_result (modules parts)).structs → IsDone (link_result (modules parts)).structs b other → IsDone (link_result (modules parts)).structs b1 other) where
  abbrev ms : List Module
  ms = modules parts

  abbrev whole : Structs
  whole = (link_result ms).structs

  -- a fact of the last part and its table
  at_last : (P : ℕ → Lists → Tables → Type 0) → P part a t → (i : ℕ) (x : Lists) (y : Tables) → slice_get parts i ≡ Some x → (i ≡ length before) × (t ≡ y) → P i x y
  at_last P h i x y at last =
      let place : part ≡ i = next ∙ sym last.0 in
      let same : a ≡ x = same_Some a x (sym here ∙ ap (λ (n : ℕ). slice_get parts n) place ∙ at) in
      subst (λ (j : ℕ). P j x y) place (subst (λ (z : Lists). P part z y) same (subst (P part a) last.1 h))

  types_more : (i : ℕ) (x : Lists) (y : Tables) → slice_get parts i ≡ Some x → slice_get (before ++ t ∷ []) i ≡ Some y → HasTypes ms i x b1 y
  types_more i x y at there = by (at_more before t y i there)
    where
      by : (slice_get before i ≡ Some y) ⊎ ((i ≡ length before) × (t ≡ y)) → HasTypes ms i x b1 y
      by (inl old) = let h = made.types i x y at old in record { copies = still (new_struct ms i) x y h.copies; all = h.all }
      by (inr last) = at_last (λ j z w. HasTypes ms j z b1 w) (record { copies = making.copies; all = all }) i x y at last

  done_more : (i : ℕ) (x : Lists) (y : Tables) → slice_get parts i ≡ Some x → slice_get (before ++ t ∷ []) i ≡ Some y → AreDone ms x b1 y
  done_more i x y at there = by (at_more before t y i there)
    where
      by : (slice_get before i ≡ Some y) ⊎ ((i ≡ length before) × (t ≡ y)) → AreDone ms x b1 y
      by (inl old) = λ id lt.
          let new = tables.new_struct y id in
          let below = slice_get_within (names b.table) new _ ((made.types i x y at old).copies.named id lt) in
          let many = ap length (sym (names_same b.table) ∙ made.partly.names) ∙ length-map whole (λ (s : Bytes × TreeBody). s.0) in
          kept new (omega (arith, below, many)) (made.done i x y at old id lt)
      by (inr last) = at_last (λ j z w. AreDone ms z b1 w) done i x y at last

  abbrev Alone : Tables → Type 0
  Alone x = x ≡ with_types (tables_of x.structs) x.types

  pub made_more : IsMade parts b1 (before ++ t ∷ [])
  made_more = record {
    can = made.can;
    partly = making.partly;
    types = types_more;
    done = done_more;
    nothing_else = All-append Alone before (t ∷ []) made.nothing_else (All-cons Alone t [] (others ∙ ap (λ ss. with_types (tables_of ss) t.types) (sym (ap (λ (x : Tables). x.structs) others))) (All-nil Alone));
  }
