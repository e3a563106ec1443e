-- The first conflict is that of the first symbol, of its first kind, of its first pair.
use Rattle.std.proofs.Common.{◌≡◌, ℕ, Bool, true, false, not, cond, ◌&&◌, List, [], ◌∷◌, ◌++◌, map, Option, Some, None, refl, sym, ap, ap₂, ◌∙◌, subst, filter, drop, ◌+◌}
use Rattle.std.specs.Prelude.{flat_map, slice_get}
use Rattle.std.specs.Option.{option_map, option_or}
use Rattle.std.proofs.lemmas.Bool.{not-false}
use Rattle.module_arena.specs.Module.{Bytes, Module}
use Rattle.type_table.specs.Shape.{Shape}
use Rattle.linkage_rules.specs.declared.clash.EntryClash.{EntryClash}
use Rattle.linkage_rules.specs.Conflicts.{ConflictKind, TwoStrong, FunctionAndVariable, AppendingAndPlain, ElementShape, Constness, conflict_kinds, is_strong, appends, elements_alike, clash, FoundConflict, found_conflict, conflicts_of_kind, conflicts_of}
use Rattle.linkage_rules.specs.Entries.{Entry, Symbol, Shared, mentions}
use Rattle.linkage_rules.specs.Globals.{is_variable, is_constant, type_of, element_of}
use Rattle.linkage_rules.specs.Grouped.{takes_part, differ, clash_with, first_clash, or_later, conflict_among, first_of, told_in, told_of, told as the_clash}
use Rattle.linkage_rules.specs.Lists.{pairs, first}
use Rattle.linkage_rules.specs.SameShape.{agree, alike}
use Rattle.linkage_rules.specs.Winner.{shape_in}
use Rattle.linkage_rules.proofs.Clashes.{test, searched, first_pair}
use Rattle.linkage_rules.proofs.Steps.{drop_more}
use Rattle.linkage_rules.proofs.Shapes.{agree_self, agree_exact, alike_self, alike_exact}

-- ONE KIND

agree_apart : (a b c : Bool) → not (agree a b) ≡ false → not (agree a c) ≡ false → not (agree b c) ≡ false
agree_apart a b c h k =
    let x = agree_exact a b (not-false (agree a b) h) in
    let y = agree_exact a c (not-false (agree a c) k) in
    ap not (subst (λ z. agree b z ≡ true) (sym x ∙ y) (agree_self b))

module _ (parts : List Module) where
  abbrev element_shape : Entry → Option Shape
  element_shape e = shape_in parts e.part (element_of (type_of e.global))

  -- what does not differ from one does not differ from what the other is alike
  apart : (kind : ConflictKind) (x y z : Entry) → differ parts kind x y ≡ false → differ parts kind x z ≡ false → differ parts kind y z ≡ false
  apart TwoStrong x y z h k = cc
  apart FunctionAndVariable x y z h k = agree_apart (is_variable x.global) (is_variable y.global) (is_variable z.global) h k
  apart AppendingAndPlain x y z h k = agree_apart (appends x) (appends y) (appends z) h k
  apart ElementShape x y z h k =
      let a = alike_exact (element_shape x) (element_shape y) (not-false (elements_alike parts x y) h) in
      let b = alike_exact (element_shape x) (element_shape z) (not-false (elements_alike parts x z) k) in
      ap not (subst (λ s. alike (element_shape y) s ≡ true) (sym a ∙ b) (alike_self (element_shape y)))
  apart Constness x y z h k = agree_apart (is_constant x.global) (is_constant y.global) (is_constant z.global) h k

  grouped : (x y z : Bool) → ((x && y) && z) ≡ (x && (y && z))
  grouped true y z = refl
  grouped false y z = refl

  tested : (kind : ConflictKind) (a b : Entry) → clash parts kind a b ≡ (takes_part kind a && (takes_part kind b && differ parts kind a b))
  tested TwoStrong a b = both (is_strong a) (is_strong b)
    where
      both : (x y : Bool) → (x && y) ≡ (x && (y && true))
      both true true = refl
      both true false = refl
      both false y = refl
  tested FunctionAndVariable a b = refl
  tested AppendingAndPlain a b = refl
  tested ElementShape a b = grouped (appends a) (appends b) (not (elements_alike parts a b))
  tested Constness a b = grouped (appends a) (appends b) (not (agree (is_constant a.global) (is_constant b.global)))

  filter_same : {A : Type 0} (p q : A → Bool) → ((x : A) → p x ≡ q x) → (xs : List A) → filter p xs ≡ filter q xs
  filter_same p q e [] = refl
  filter_same p q e (x ∷ xs) = ap₂ (λ b l. cond b (x ∷ l) l) (e x) (filter_same p q e xs)

  same_search : (kind : ConflictKind) (es : List Entry) → searched (takes_part kind) (differ parts kind) (apart kind) es ≡ first_clash parts kind es
  same_search kind [] = refl
  same_search kind (e ∷ es) = ap (cond (takes_part kind e) (option_map {U = Entry × Entry} (λ b. (e, b)) (clash_with parts kind e es))) (same_search kind es)

  of_kind : (kind : ConflictKind) (es : List Entry) → first (filter (λ pair. clash parts kind pair.0 pair.1) (pairs es)) ≡ first_clash parts kind es
  of_kind kind es =
      ap first (filter_same (λ pair. clash parts kind pair.0 pair.1) (test (takes_part kind) (differ parts kind) (apart kind)) (λ pair. tested kind pair.0 pair.1) (pairs es))
      ∙ first_pair (takes_part kind) (differ parts kind) (apart kind) es
      ∙ same_search kind es

  -- ONE SYMBOL

  first_map : {A B : Type 0} (f : A → B) (xs : List A) → first (map f xs) ≡ option_map f (first xs)
  first_map f [] = refl
  first_map f (x ∷ xs) = refl

  -- what is told of a conflict
  abbrev pub told : Bytes → ConflictKind × (Entry × Entry) → FoundConflict
  told name found = found_conflict found.0 name found.1

  of_kinds : (name : Bytes) (kinds : List ConflictKind) → first (flat_map (conflicts_of_kind parts name) kinds) ≡ option_map (told name) (conflict_among parts (mentions parts name) kinds)
  of_kinds name [] = refl
  of_kinds name (kind ∷ kinds) =
      go (conflicts_of_kind parts name kind) (first_clash parts kind (mentions parts name))
      (first_map (found_conflict kind name) (filter (λ pair. clash parts kind pair.0 pair.1) (pairs (mentions parts name))) ∙ ap (option_map (found_conflict kind name)) (of_kind kind (mentions parts name)))
      (of_kinds name kinds)
    where
      go : (cs : List FoundConflict) (o : Option (Entry × Entry)) → first cs ≡ option_map (found_conflict kind name) o → first (flat_map (conflicts_of_kind parts name) kinds) ≡ option_map (told name) (conflict_among parts (mentions parts name) kinds)
          → first (cs ++ flat_map (conflicts_of_kind parts name) kinds) ≡ option_map (told name) (or_later kind o (conflict_among parts (mentions parts name) kinds))
      go [] None h rest = rest
      go [] (Some p) h rest = cc
      go (c ∷ cs) None h rest = cc
      go (c ∷ cs) (Some p) h rest = h

  pub of_name : (name : Bytes) → first (conflicts_of parts (Shared name)) ≡ option_map (told name) (conflict_among parts (mentions parts name) conflict_kinds)
  of_name name = of_kinds name conflict_kinds

  -- ALL SYMBOLS

  -- the conflict of a kind, or else a later one
  pub kind_or_later : (es : List Entry) (kind : ConflictKind) (kinds : List ConflictKind) (here later : Option EntryClash) → here ≡ option_map (told_of kind) (first_clash parts kind es) → later ≡ option_map the_clash (conflict_among parts es kinds)
      → option_or here later ≡ option_map the_clash (conflict_among parts es (kind ∷ kinds))
  kind_or_later es kind kinds here later h l = ap₂ (λ x y. option_or x y) h l ∙ go (first_clash parts kind es) (conflict_among parts es kinds)
    where
      go : (o : Option (Entry × Entry)) (rest : Option (ConflictKind × (Entry × Entry))) → option_or (option_map (told_of kind) o) (option_map the_clash rest) ≡ option_map the_clash (or_later kind o rest)
      go None rest = refl
      go (Some p) rest = refl

  pub last_kind : (es : List Entry) (kind : ConflictKind) (here : Option EntryClash) → here ≡ option_map (told_of kind) (first_clash parts kind es) → here ≡ option_map the_clash (conflict_among parts es (kind ∷ []))
  last_kind es kind here h = h ∙ go (first_clash parts kind es)
    where
      go : (o : Option (Entry × Entry)) → option_map (told_of kind) o ≡ option_map the_clash (or_later kind o None)
      go None = refl
      go (Some p) = refl

  -- what the code tells of a name is its first conflict
  pub told_of_name : (name : Bytes) (es : List Entry) (clash : Option EntryClash) → clash ≡ option_map the_clash (conflict_among parts es conflict_kinds) → es ≡ mentions parts name → option_map (told_in (Shared name)) clash ≡ first (conflicts_of parts (Shared name))
  told_of_name name es clash h is =
      ap (option_map (told_in (Shared name))) (h ∙ ap (λ l. option_map the_clash (conflict_among parts l conflict_kinds)) is)
      ∙ go (conflict_among parts (mentions parts name) conflict_kinds) ∙ sym (of_name name)
    where
      go : (o : Option (ConflictKind × (Entry × Entry))) → option_map (told_in (Shared name)) (option_map the_clash o) ≡ option_map (told name) o
      go None = refl
      go (Some c) = refl

  pub symbol_passed : (s : Symbol) (ss : List Symbol) → first (conflicts_of parts s) ≡ None → first_of parts (s ∷ ss) ≡ first_of parts ss
  symbol_passed s ss h = passed (conflicts_of parts s) (flat_map (conflicts_of parts) ss) h
    where
      passed : {A : Type 0} (xs ys : List A) → first xs ≡ None → first (xs ++ ys) ≡ first ys
      passed [] ys h = refl
      passed (x ∷ xs) ys h = cc

  pub symbol_found : (s : Symbol) (ss : List Symbol) (c : FoundConflict) → first (conflicts_of parts s) ≡ Some c → first_of parts (s ∷ ss) ≡ Some c
  symbol_found s ss c h = found (conflicts_of parts s) (flat_map (conflicts_of parts) ss) c h
    where
      found : {A : Type 0} (xs ys : List A) (x : A) → first xs ≡ Some x → first (xs ++ ys) ≡ Some x
      found [] ys x h = cc
      found (y ∷ xs) ys x h = h

  module _ (all : List Symbol) (k : ℕ) (s : Symbol) (at : slice_get all k ≡ Some s) where
    pub conflicts_next : first (conflicts_of parts s) ≡ None → first_of parts (drop k all) ≡ first_of parts (drop (k + 1) all)
    conflicts_next h = ap (first_of parts) (drop_more all k s at) ∙ symbol_passed s (drop (k + 1) all) h

    pub conflicts_here : (c : FoundConflict) → first (conflicts_of parts s) ≡ Some c → first_of parts (drop k all) ≡ Some c
    conflicts_here c h = ap (first_of parts) (drop_more all k s at) ∙ symbol_found s (drop (k + 1) all) c h
