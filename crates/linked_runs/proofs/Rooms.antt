-- The variable of a symbol has the same size and alignment in the result.
use Rattle.std.proofs.Common.{◌≡◌, ℕ, ◌*◌, Bool, true, false, ◌&&◌, cond, List, [], ◌∷◌, map, length, Option, Some, None, refl, sym, ap, ap₂, ◌∙◌, filter, option_map, nat_le, option_to_list, unwrap_or, arith, sum}
use Rattle.std.specs.Prelude.{if◌then◌else◌}
use Rattle.std.specs.List.{AllByRecursion, cons_option}
use Rattle.std.specs.Option.{option_map_or}
use Rattle.std.proofs.lemmas.Bool.{leb-false}
use Rattle.type_table.specs.Layout.{size, align}
use Rattle.type_table.specs.Shape.{Shape, array_of}
use Rattle.type_table.specs.Tree.{Tree, int, ptr, void, array, struct, named}
use Rattle.module_arena.specs.Module.{Bytes, Variable, Module}
use Rattle.linkage_rules.specs.Entries.{Entry, same_symbol, symbol_of, entries}
use Rattle.linkage_rules.specs.declared.symbol.Symbol.{Symbol}
use Rattle.linkage_rules.specs.Globals.{Global, OfVariable, OfFunction, OfAlias, linkage_of, is_variable, is_alias, element_of, length_of}
use Rattle.linkage_rules.specs.Linkages.{is_appending, is_common}
use Rattle.linkage_rules.specs.Lists.{greatest}
use Rattle.linkage_rules.specs.Addresses.{Room, joined_length, align_in, alignment_in, greatest_stated, commons, greatest_common, size_by, alignment_by, room}
use Rattle.linkage_rules.specs.Symbols.{is_alias_symbol}
use Rattle.linkage_rules.specs.Winner.{definitions, home, shape_in, size_in}
use Rattle.link_rules.proofs.Symbols.{AreOfKind, home_is, best_has}
use Rattle.link_rules.specs.Linked.{joined_initialiser, linked_definition}
use Rattle.link_rules.specs.Structs.{linked_type}
use Rattle.link_rules.specs.Carried.{merged, IsSymbol, carry, moved}
use Rattle.link_rules.specs.Rename.{new_name_of}
use Rattle.link_rules.specs.Known.{KnownTree}
use Rattle.linked_runs.proofs.Known.{IsKnown, AppendsLists, Fit}
use Rattle.link_rules.specs.Merges.{Merges}
use Rattle.link_rules.proofs.Searches.{all_both}

-- ONE OF A KIND

-- nothing that passes
pub none_pass : {A : Type 0} (p : A → Bool) (xs : List A) → filter p xs ≡ [] → AllByRecursion (λ x. p x ≡ true → ⊥) xs
none_pass p [] h = tt
none_pass p (x ∷ xs) h = go (p x) refl h (none_pass p xs)
  where
    go : (b : Bool) → p x ≡ b → cond b (x ∷ filter p xs) (filter p xs) ≡ [] → (filter p xs ≡ [] → AllByRecursion (λ x. p x ≡ true → ⊥) xs) → AllByRecursion (λ x. p x ≡ true → ⊥) (x ∷ xs)
    go true e f more = cc
    go false e f more = ((λ t. cc), more f)

cons_parts : {A : Type 0} (x y : A) (xs ys : List A) → ◌≡◌ {A = List A} (x ∷ xs) (y ∷ ys) → (x ≡ y) × (xs ≡ ys)
cons_parts x y xs ys h = (cc, cc)

-- one that passes
one_passes : {A : Type 0} (p : A → Bool) (y : A) (xs : List A) → filter p xs ≡ y ∷ [] → AllByRecursion (λ x. p x ≡ true → x ≡ y) xs
one_passes p y [] h = tt
one_passes p y (x ∷ xs) h = go (p x) refl h (one_passes p y xs)
  where
    no_more : (zs : List _) → AllByRecursion (λ z. p z ≡ true → ⊥) zs → AllByRecursion (λ z. p z ≡ true → z ≡ y) zs
    no_more [] a = tt
    no_more (z ∷ zs) a = ((λ t. absurd (a.0 t)), no_more zs a.1)

    go : (b : Bool) → p x ≡ b → cond b (x ∷ filter p xs) (filter p xs) ≡ y ∷ [] → (filter p xs ≡ y ∷ [] → AllByRecursion (λ x. p x ≡ true → x ≡ y) xs) → AllByRecursion (λ x. p x ≡ true → x ≡ y) (x ∷ xs)
    go true e f more = let halves = cons_parts x y (filter p xs) [] f in ((λ t. halves.0), no_more xs (none_pass p xs halves.1))
    go false e f more = ((λ t. cc), more f)

pub known_element : (parts : List Module) (i : ℕ) (t : Tree) → KnownTree parts i t → KnownTree parts i (element_of t)
known_element parts i (array n t) k = k
known_element parts i (int w) k = k
known_element parts i ptr k = k
known_element parts i void k = k
known_element parts i (struct packed ts) k = k
known_element parts i (named name) k = k

pub align_element : (n : ℕ) (o : Option Shape) → option_map_or align (option_map (array_of n) o) 1 ≡ option_map_or align o 1
align_element n None = refl
align_element n (Some s) = refl

module _ (parts : List Module) (merges : Merges parts) where
  pub size_same : (i : ℕ) (t : Tree) → KnownTree parts i t → size_in (merged parts) 0 (linked_type parts i t) ≡ size_in parts i t
  size_same i t k = ap (λ o. option_map_or size o 0) (merges.shapes i t k)

  pub align_same : (i : ℕ) (t : Tree) → KnownTree parts i t → align_in (merged parts) 0 (linked_type parts i t) ≡ align_in parts i t
  align_same i t k = ap (λ o. option_map_or align o 1) (merges.shapes i t k)

  module _ (m : Bytes) (i : ℕ) (v : Variable) (es : List Entry) (known : KnownTree parts i v.ty) where
    abbrev before : Entry
    before = record { part = i; global = OfVariable v }

    -- the type of a variable of the result
    abbrev new_type : Bool → Tree
    new_type appending = if appending then array (joined_length es) (linked_type parts i (element_of v.ty)) else linked_type parts i v.ty

    same_size : (b : Bool) → (if b then sum (length_of (new_type b) ∷ []) * size_in (merged parts) 0 (element_of (new_type b)) else size_in (merged parts) 0 (new_type b)) ≡ (if b then joined_length es * size_in parts i (element_of v.ty) else size_in parts i v.ty)
    same_size true = ap₂ (λ n k. n * k) (omega arith) (size_same i (element_of v.ty) (known_element parts i v.ty known))
    same_size false = size_same i v.ty known

    pub variable_size : size_by (merged parts) (record { part = 0; global = linked_definition parts m before es (OfVariable v) }) (record { part = 0; global = linked_definition parts m before es (OfVariable v) } ∷ []) ≡ size_by parts before es
    variable_size = same_size (is_appending v.linkage)

    -- the alignment that a variable of the result states
    abbrev new_stated : Bool → Bool → Option ℕ
    new_stated appending common = if appending then greatest_stated es else (if common && nat_le 2 (length (commons es)) then greatest_common parts es else v.alignment)

    abbrev after : Bool → Bool → Entry
    after appending common = record { part = 0; global = OfVariable (record { name = m; linkage = v.linkage; constant = v.constant; ty = new_type appending; alignment = new_stated appending common; initialiser = joined_initialiser parts before es v.initialiser }) }

    abbrev new_alignment : Bool → Bool → ℕ
    new_alignment appending common =
        if appending then unwrap_or (greatest_stated (after appending common ∷ [])) (align_in (merged parts) 0 (new_type appending))
        else (if common then unwrap_or (greatest (map (alignment_in (merged parts)) (cond common (after appending common ∷ []) []))) (alignment_in (merged parts) (after appending common)) else alignment_in (merged parts) (after appending common))

    abbrev old_alignment : Bool → Bool → ℕ
    old_alignment appending common =
        if appending then unwrap_or (greatest_stated es) (align_in parts i v.ty)
        else (if common then unwrap_or (greatest_common parts es) (alignment_in parts before) else alignment_in parts before)

    of_array : array (length_of v.ty) (element_of v.ty) ≡ v.ty → align_in (merged parts) 0 (array (joined_length es) (linked_type parts i (element_of v.ty))) ≡ align_in parts i v.ty
    of_array shaped =
        align_element (joined_length es) (shape_in (merged parts) 0 (linked_type parts i (element_of v.ty))) ∙ align_same i (element_of v.ty) (known_element parts i v.ty known)
        ∙ sym (align_element (length_of v.ty) (shape_in parts i (element_of v.ty))) ∙ ap (align_in parts i) shaped

    of_commons : (cs : List Entry) → (b : Bool) → b ≡ nat_le 2 (length cs)
        → (cs ≡ [] → ⊥) → ((x : Entry) → cs ≡ x ∷ [] → before ≡ x)
        → unwrap_or (if b then greatest (map (alignment_in parts) cs) else v.alignment) (align_in (merged parts) 0 (linked_type parts i v.ty)) ≡ unwrap_or (greatest (map (alignment_in parts) cs)) (alignment_in parts before)
    of_commons [] b h some one = absurd (some refl)
    of_commons (x ∷ []) true h some one = cc
    of_commons (x ∷ []) false h some one = ap (unwrap_or v.alignment) (align_same i v.ty known) ∙ ap (alignment_in parts) (one x refl)
    of_commons (x ∷ y ∷ cs) true h some one = refl
    of_commons (x ∷ y ∷ cs) false h some one = absurd (omega (arith, leb-false 2 (length (x ∷ y ∷ cs)) (sym h)))

    module _ (appends : is_appending v.linkage ≡ true → array (length_of v.ty) (element_of v.ty) ≡ v.ty)
        (some : is_common v.linkage ≡ true → commons es ≡ [] → ⊥) (one : is_common v.linkage ≡ true → (x : Entry) → commons es ≡ x ∷ [] → before ≡ x) where
      same_alignment : (a c : Bool) → is_appending v.linkage ≡ a → is_common v.linkage ≡ c → new_alignment a c ≡ old_alignment a c
      same_alignment true c p q = by_stated (greatest_stated es)
        where
          by_stated : (o : Option ℕ) → unwrap_or (greatest (cons_option o [])) (align_in (merged parts) 0 (array (joined_length es) (linked_type parts i (element_of v.ty)))) ≡ unwrap_or o (align_in parts i v.ty)
          by_stated None = of_array (appends p)
          by_stated (Some n) = refl
      same_alignment false true p q = of_commons (commons es) (nat_le 2 (length (commons es))) refl (some q) (one q)
      same_alignment false false p q = ap (unwrap_or v.alignment) (align_same i v.ty known)

      pub variable_alignment : alignment_by (merged parts) (record { part = 0; global = linked_definition parts m before es (OfVariable v) }) (record { part = 0; global = linked_definition parts m before es (OfVariable v) } ∷ []) ≡ alignment_by parts before es
      variable_alignment = same_alignment (is_appending v.linkage) (is_common v.linkage) refl refl

module _ (parts : List Module) (fit : Fit parts) (merges : Merges parts) where
  abbrev FitEntry : Entry → Type 0
  FitEntry e = IsKnown parts e.part e.global × AppendsLists e.part e.global

  fit_entries : AllByRecursion FitEntry (entries parts)
  fit_entries = all_both _ _ (entries parts) fit.known fit.appended

  abbrev SameRoom : Symbol → ℕ → Global → Type 0
  SameRoom s i g =
      ◌≡◌ {A = Room} (record { size = size_by (merged parts) (moved parts s (record { part = i; global = g })) (moved parts s (record { part = i; global = g }) ∷ []); alignment = alignment_by (merged parts) (moved parts s (record { part = i; global = g })) (moved parts s (record { part = i; global = g }) ∷ []) })
      (record { size = size_by parts (record { part = i; global = g }) (definitions parts s); alignment = alignment_by parts (record { part = i; global = g }) (definitions parts s) })

  room_moved : (s : Symbol) (i : ℕ) (g : Global) → is_variable g ≡ true → is_alias g ≡ false → IsKnown parts i g → AppendsLists i g
      → (is_common (linkage_of g) ≡ true → commons (definitions parts s) ≡ [] → ⊥) → (is_common (linkage_of g) ≡ true → (x : Entry) → commons (definitions parts s) ≡ x ∷ [] → record { part = i; global = g } ≡ x) → SameRoom s i g
  room_moved s i (OfVariable v) kind plain known lists some one =
      λ k. record {
        size = variable_size parts merges (new_name_of parts s) i v (definitions parts s) known.0 k;
        alignment = variable_alignment parts merges (new_name_of parts s) i v (definitions parts s) known.0 (λ a. (lists a).0) some one k;
      }
  room_moved s i (OfFunction f) kind plain known lists some one = cc
  room_moved s i (OfAlias a) kind plain known lists some one = cc

  pub room_same : (s : Symbol) → IsSymbol parts s → AreOfKind parts true s → is_alias_symbol parts s ≡ false → room (merged parts) (carry parts s) ≡ room parts s
  room_same s here kind plain =
      (λ k. option_map (λ e. record { size = size_by (merged parts) e (merges.defined_once s here k); alignment = alignment_by (merged parts) e (merges.defined_once s here k) }) (merges.homes s here k))
      ∙ by_home (home parts s) refl
    where
      by_home : (o : Option Entry) → home parts s ≡ o
          → option_map {U = Room} (λ e. record { size = size_by (merged parts) e (option_to_list (option_map (moved parts s) o)); alignment = alignment_by (merged parts) e (option_to_list (option_map (moved parts s) o)) }) (option_map (moved parts s) o)
          ≡ option_map (λ e. record { size = size_by parts e (definitions parts s); alignment = alignment_by parts e (definitions parts s) }) o
      by_home None h = refl
      by_home (Some e) h =
          let is = home_is parts FitEntry s e fit_entries h in
          let of_kind = home_is parts (λ d. same_symbol s (symbol_of d) ≡ true → is_variable d.global ≡ true) s e kind h in
          ap Some (room_moved s e.part e.global (of_kind.0.0 of_kind.0.1) (sym (ap (λ o. option_map_or (λ (d : Entry). is_alias d.global) o false) h) ∙ plain) is.0.0.0 is.0.0.1
          (λ c none. best_has parts (λ x. is_common (linkage_of x.global) ≡ true → ⊥) (definitions parts s) e (none_pass (λ x. is_common (linkage_of x.global)) (definitions parts s) none) h c)
          (λ c x only. best_has parts (λ y. is_common (linkage_of y.global) ≡ true → y ≡ x) (definitions parts s) e (one_passes (λ y. is_common (linkage_of y.global)) x (definitions parts s) only) h c))
