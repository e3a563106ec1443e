-- Variables hold the same at first where the first parts are one.
use Rattle.std.proofs.Common.{◌≡◌, ℕ, suc, ◌+◌, ◌-◌, ◌<◌, ◌≤◌, Bool, true, false, List, [], ◌∷◌, ◌++◌, map, length, Option, Some, None, refl, sym, ap, ap₂, ◌∙◌, subst, option_map, option_to_list, flat_map, zip, append-nil, append_assoc, nat_lt, arith}
use Rattle.std.specs.Prelude.{if◌then◌else◌}
use Rattle.std.specs.List.{AllByRecursion, cons_option}
use Rattle.std.specs.Option.{option_map_or}
use Rattle.std.proofs.lemmas.Bool.{cond-true, cond-false, both_ways}
use Rattle.std.proofs.lemmas.List.{map-append}
use Rattle.type_table.specs.Layout.{size}
use Rattle.type_table.specs.Tree.{Tree, array}
use Rattle.module_arena.specs.Module.{Constant, Integer, Truth, Null, Undef, Poison, ZeroInitializer, Address, ByteString, Aggregate, ElementAddress, Cast, Binary, Square, Constants, no_constants, more_constants, Module}
use Rattle.linkage_rules.specs.Addresses.{room, joined_length}
use Rattle.linkage_rules.specs.Contents.Contents.{ContentPiece, pieces_of_constants, elements_of, elements_in, whole, pieces_by, pieces}
use Rattle.linkage_rules.specs.Entries.{Entry, entries, same_symbol, symbol_of}
use Rattle.linkage_rules.specs.Globals.{Global, OfVariable, OfFunction, OfAlias, linkage_of, element_of}
use Rattle.linkage_rules.specs.Linkages.{is_appending}
use Rattle.linkage_rules.specs.SymbolLaws.{symbol_exact}
use Rattle.linkage_rules.specs.Symbols.{variable_symbols}
use Rattle.linkage_rules.specs.Winner.{definitions, is_definition, home}
use Rattle.linkage_rules.specs.declared.symbol.Symbol.{Symbol}
use Rattle.linkage_rules.proofs.Entries.{all_follow, all_passing}
use Rattle.link_rules.specs.Carried.{IsSymbol, moved}
use Rattle.link_rules.specs.Known.{KnownName, KnownTree}
use Rattle.link_rules.specs.Linked.{linked_constant, linked_pieces}
use Rattle.link_rules.specs.Rename.{new_global}
use Rattle.link_rules.specs.Structs.{new_struct, linked_type}
use Rattle.link_rules.proofs.Searches.{all_front, map_all}
use Rattle.link_rules.proofs.Symbols.{home_is, best_has, all_filter}
use Rattle.linked_runs.proofs.Contents.{all_flat, constructors_in, moved_piece, KnownPiece, entry_elements_known, whole_known, pieces_linked}
use Rattle.linked_runs.proofs.Known.{IsKnown, AppendsLists, AppendAlike}
use Rattle.run_rules.specs.Constant.{shape_of, constant_value}
use Rattle.run_rules.specs.Leaves.{slots_at}
use Rattle.run_rules.specs.Look.{names_in}
use Rattle.run_rules.specs.Plan.{contents_from, contents_of, constructor_of}
use Rattle.run_rules.proofs.OnLaws.SameConstants.{same_constant}
use Rattle.rejoined_runs.specs.Regrouped.{symbol_after, entry_after}
use Rattle.rejoined_runs.proofs.Best.{best_empty}
use Rattle.rejoined_runs.proofs.CodeAfter.{known_first, same_linkage}
use Rattle.rejoined_runs.proofs.Homes.{Ready, old, new, later, later_definitions, definitions_old, definitions_new, first_definitions, before_all, later_all, below, not_below, is_below, is_past}
use Rattle.rejoined_runs.proofs.PlacesAfter.{Both, first_agree, later_same}
use Rattle.rejoined_runs.proofs.Shifted.{shift}

-- what a piece is where the first parts are one
abbrev pub piece_after : List Module → ContentPiece → ContentPiece
piece_after a p =
    if nat_lt p.part (length a) then moved_piece a p else record {
      part =
          suc (p.part - length a);
      ty = p.ty;
      value = p.value;
    }

flat_joined : {A B : Type 0} (f : A → List B) (xs ys : List A)
    → flat_map f (xs ++ ys) ≡ flat_map f xs ++ flat_map f ys
flat_joined f [] ys = refl
flat_joined f (x ∷ xs) ys = ap (λ l. f x ++ l) (flat_joined f xs ys)
    ∙ sym (append_assoc (f x) (flat_map f xs) (flat_map f ys))

-- PIECES OF ONE PART

module _ (a : List Module) where
  first_piece : (i : ℕ) → i < length a → (t : Tree) (c : Constant)
      → piece_after a (record { part = i; ty = t; value = c })
      ≡ moved_piece a (record { part = i; ty = t; value = c })
  first_piece i h t c = cond-true (nat_lt i (length a)) _ _ (is_below i (length a) h)

  later_piece : (i : ℕ) → length a ≤ i → (t : Tree) (c : Constant)
      → ◌≡◌ {A = ContentPiece} (record { part = suc (i - length a); ty = t; value = c })
      (piece_after a (record { part = i; ty = t; value = c }))
  later_piece i h t c = sym (cond-false (nat_lt i (length a)) _ _ (is_past i (length a) h))

  later_constants : (i : ℕ) → length a ≤ i → (cs : Constants)
      → pieces_of_constants (suc (i - length a)) cs ≡ map (piece_after a) (pieces_of_constants i cs)
  later_constants i h no_constants = refl
  later_constants i h (more_constants t c cs) =
      ap₂ (λ p ps. p ∷ ps) (later_piece i h t c) (later_constants i h cs)

  later_elements : (i : ℕ) → length a ≤ i → (c : Constant)
      → elements_of (suc (i - length a)) c ≡ map (piece_after a) (elements_of i c)
  later_elements i h (Aggregate k cs) = later_constants i h cs
  later_elements i h (Integer n) = refl
  later_elements i h (Truth t) = refl
  later_elements i h Null = refl
  later_elements i h Undef = refl
  later_elements i h Poison = refl
  later_elements i h ZeroInitializer = refl
  later_elements i h (Address name) = refl
  later_elements i h (ByteString bytes) = refl
  later_elements i h (ElementAddress flags source operands) = refl
  later_elements i h (Cast opcode from value to) = refl
  later_elements i h (Binary opcode flags left_type left right_type right) = refl

  later_entry_elements : (i : ℕ) → length a ≤ i → (g : Global)
      → elements_in (record { part = suc (i - length a); global = g })
      ≡ map (piece_after a) (elements_in (record { part = i; global = g }))
  later_entry_elements i h (OfVariable v) = go v.initialiser
    where
      go : (o : Option Constant)
          → option_map_or (elements_of (suc (i - length a))) o []
          ≡ map (piece_after a) (option_map_or (elements_of i) o [])
      go None = refl
      go (Some c) = later_elements i h c
  later_entry_elements i h (OfFunction f) = refl
  later_entry_elements i h (OfAlias x) = refl

  later_whole : (i : ℕ) → length a ≤ i → (g : Global)
      → whole (record { part = suc (i - length a); global = g })
      ≡ map (piece_after a) (whole (record { part = i; global = g }))
  later_whole i h (OfVariable v) = go v.initialiser
    where
      go : (o : Option Constant)
          → option_map_or {U = List ContentPiece}
          (λ c. record { part = suc (i - length a); ty = v.ty; value = c } ∷ []) o []
          ≡ map (piece_after a)
          (option_map_or (λ c. record { part = i; ty = v.ty; value = c } ∷ []) o [])
      go None = refl
      go (Some c) = ap (λ p. p ∷ []) (later_piece i h v.ty c)
  later_whole i h (OfFunction f) = refl
  later_whole i h (OfAlias x) = refl

  -- an initialiser of a first part that is not appended
  first_whole : (s : Symbol) (i : ℕ) → i < length a → (g : Global)
      → is_appending (linkage_of g) ≡ false
      → whole (moved a s (record { part = i; global = g }))
      ≡ map (piece_after a) (whole (record { part = i; global = g }))
  first_whole s i h (OfVariable v) plain =
      (λ k. option_map_or {U = List ContentPiece}
      (λ c. record {
        part = 0;
        ty =
            cond-false (is_appending v.linkage)
            (array (joined_length (definitions a s)) (linked_type a i (element_of v.ty)))
            (linked_type a i v.ty) plain k;
        value = c;
      } ∷ [])
      (cond-false (is_appending v.linkage)
      (Some (Aggregate Square
      (linked_pieces a (flat_map elements_in (definitions a s)))))
      (option_map (linked_constant a i) v.initialiser) plain k) [])
      ∙ go v.initialiser
    where
      go : (o : Option Constant)
          → option_map_or {U = List ContentPiece}
          (λ c. record { part = 0; ty = linked_type a i v.ty; value = c } ∷ [])
          (option_map (linked_constant a i) o) []
          ≡ map (piece_after a)
          (option_map_or (λ c. record { part = i; ty = v.ty; value = c } ∷ []) o [])
      go None = refl
      go (Some c) = ap (λ p. p ∷ []) (sym (first_piece i h v.ty c))
  first_whole s i h (OfFunction f) plain = refl
  first_whole s i h (OfAlias x) plain = refl

  -- WHERE PIECES ARE FROM

  constants_part : (P : ℕ → Type 0) (i : ℕ) (cs : Constants) → P i
      → AllByRecursion (λ p. P p.part) (pieces_of_constants i cs)
  constants_part P i no_constants h = tt
  constants_part P i (more_constants t c cs) h = (h, constants_part P i cs h)

  elements_part : (P : ℕ → Type 0) (i : ℕ) (c : Constant) → P i
      → AllByRecursion (λ p. P p.part) (elements_of i c)
  elements_part P i (Aggregate k cs) h = constants_part P i cs h
  elements_part P i (Integer n) h = tt
  elements_part P i (Truth t) h = tt
  elements_part P i Null h = tt
  elements_part P i Undef h = tt
  elements_part P i Poison h = tt
  elements_part P i ZeroInitializer h = tt
  elements_part P i (Address name) h = tt
  elements_part P i (ByteString bytes) h = tt
  elements_part P i (ElementAddress flags source operands) h = tt
  elements_part P i (Cast opcode from value to) h = tt
  elements_part P i (Binary opcode flags left_type left right_type right) h = tt

  entry_part : (P : ℕ → Type 0) (i : ℕ) (g : Global) → P i
      → AllByRecursion (λ p. P p.part) (elements_in (record { part = i; global = g }))
  entry_part P i (OfVariable v) h = go v.initialiser
    where
      go : (o : Option Constant)
          → AllByRecursion (λ p. P p.part) (option_map_or (elements_of i) o [])
      go None = tt
      go (Some c) = elements_part P i c h
  entry_part P i (OfFunction f) h = tt
  entry_part P i (OfAlias x) h = tt

  whole_part : (P : ℕ → Type 0) (i : ℕ) (g : Global) → P i
      → AllByRecursion (λ p. P p.part) (whole (record { part = i; global = g }))
  whole_part P i (OfVariable v) h = go v.initialiser
    where
      go : (o : Option Constant)
          → AllByRecursion (λ p. P p.part)
          (option_map_or {U = List ContentPiece}
          (λ c. record { part = i; ty = v.ty; value = c } ∷ []) o [])
      go None = tt
      go (Some c) = (h, tt)
  whole_part P i (OfFunction f) h = tt
  whole_part P i (OfAlias x) h = tt

-- ALL PIECES

module _ (a b : List Module) (ready : Ready a) (both : Both a b)
    (rooms_kept : AllByRecursion (λ s. room (new a b) (symbol_after a s) ≡ room (old a b) s)
    (variable_symbols (old a b))) where
  later_flat : (es : List Entry) → AllByRecursion (λ e. length a ≤ e.part) es
      → flat_map elements_in (map (shift (length a)) es)
      ≡ map (piece_after a) (flat_map elements_in es)
  later_flat [] all = refl
  later_flat (e ∷ es) all =
      ap₂ (λ x y. x ++ y) (later_entry_elements a e.part all.0 e.global) (later_flat es all.1)
      ∙ sym (map-append (piece_after a) (elements_in e) (flat_map elements_in es))

  first_flat : (ps : List ContentPiece) → AllByRecursion (λ p. p.part < length a) ps
      → map (moved_piece a) ps ≡ map (piece_after a) ps
  first_flat ps all =
      map_all (moved_piece a) (piece_after a) (λ p. p.part < length a) ps
      (λ p h. sym (cond-true (nat_lt p.part (length a)) _ _ (is_below p.part (length a) h))) all

  low_definitions : (s : Symbol) → AllByRecursion (λ e. e.part < length a) (definitions a s)
  low_definitions s =
      all_filter _ is_definition _
      (all_filter _ (λ e. same_symbol s (symbol_of e)) (entries a) (before_all a b))

  pub high_definitions : (s : Symbol)
      → AllByRecursion (λ e. length a ≤ e.part) (later_definitions a b s)
  high_definitions s =
      all_filter _ is_definition _
      (all_filter _ (λ e. same_symbol s (symbol_of e)) (later a b) (later_all a b))

  -- the elements of an appended array of the first parts
  moved_elements : (s : Symbol) (i : ℕ) (g : Global) → AppendsLists i g
      → is_appending (linkage_of g) ≡ true
      → elements_in (moved a s (record { part = i; global = g }))
      ≡ map (moved_piece a) (flat_map elements_in (definitions a s))
  moved_elements s i (OfVariable v) lists appends =
      ap (λ o. option_map_or (elements_of 0) o [])
      (cond-true (is_appending v.linkage)
      (Some (Aggregate Square (linked_pieces a (flat_map elements_in (definitions a s)))))
      (option_map (linked_constant a i) v.initialiser) appends)
      ∙ pieces_linked a (flat_map elements_in (definitions a s))
  moved_elements s i (OfFunction f) lists appends =
      absurd (both_ways (is_appending f.linkage) lists appends)
  moved_elements s i (OfAlias x) lists appends =
      absurd (both_ways (is_appending x.linkage) lists appends)

  -- all definitions of an appended symbol are appended
  pub all_appended : (s : Symbol) (e : Entry) → home (old a b) s ≡ Some e
      → is_appending (linkage_of e.global) ≡ true
      → AllByRecursion (λ d. is_appending (linkage_of d.global) ≡ true)
      (definitions (old a b) s)
  all_appended s e h appends =
      let is = home_is (old a b) (AppendAlike (old a b)) s e both.fit.alike h in
      all_filter _ is_definition _
      (all_follow _ _ _
      (λ d k. k.0
      (subst (λ u. same_symbol u (symbol_of d) ≡ true)
      (symbol_exact s (symbol_of e) is.0.1) k.1) ∙ appends)
      (all_passing _ (λ d. same_symbol s (symbol_of d)) (entries (old a b)) is.0.0))

  pub first_appended : (s : Symbol) (e : Entry) → home (old a b) s ≡ Some e
      → is_appending (linkage_of e.global) ≡ true
      → AllByRecursion (λ d. is_appending (linkage_of d.global) ≡ true) (definitions a s)
  first_appended s e h appends =
      all_front _ (definitions a s) (later_definitions a b s)
      (subst (AllByRecursion (λ d. is_appending (linkage_of d.global) ≡ true))
      (definitions_old a b s) (all_appended s e h appends))

  appended_pieces : (s : Symbol) → IsSymbol (old a b) s
      → AllByRecursion (λ d. is_appending (linkage_of d.global) ≡ true) (definitions a s)
      → flat_map elements_in (definitions (new a b) (symbol_after a s))
      ≡ map (piece_after a) (flat_map elements_in (definitions (old a b) s))
  appended_pieces s here appends =
      ap (flat_map elements_in) (definitions_new a b s
      ∙ ap (λ l. l ++ map (shift (length a)) (later_definitions a b s))
      (first_definitions a b ready s here))
      ∙ flat_joined elements_in (option_to_list (option_map (moved a s) (home a s)))
      (map (shift (length a)) (later_definitions a b s))
      ∙ ap₂ (λ x y. x ++ y) (front (home a s) refl)
      (later_flat (later_definitions a b s) (high_definitions s))
      ∙ sym (map-append (piece_after a) (flat_map elements_in (definitions a s))
      (flat_map elements_in (later_definitions a b s)))
      ∙ ap (map (piece_after a))
      (sym (flat_joined elements_in (definitions a s) (later_definitions a b s))
      ∙ ap (flat_map elements_in) (sym (definitions_old a b s)))
    where
      low_pieces : AllByRecursion (λ p. p.part < length a) (flat_map elements_in (definitions a s))
      low_pieces =
          all_flat _ elements_in (definitions a s)
          (all_follow _ _ (definitions a s)
          (λ e h. entry_part a (λ i. i < length a) e.part e.global h) (low_definitions s))

      front : (o : Option Entry) → home a s ≡ o
          → flat_map elements_in (option_to_list (option_map (moved a s) o))
          ≡ map (piece_after a) (flat_map elements_in (definitions a s))
      front None h =
          sym (ap (λ es. map (piece_after a) (flat_map elements_in es))
          (best_empty a (definitions a s) h))
      front (Some w) h =
          append-nil (elements_in (moved a s w))
          ∙ moved_elements s w.part w.global
          (home_is a (λ d. AppendsLists d.part d.global) s w both.first.appended h).0.0
          (best_has a (λ d. is_appending (linkage_of d.global) ≡ true)
          (definitions a s) w appends h)
          ∙ first_flat (flat_map elements_in (definitions a s)) low_pieces

  pub pieces_same : (s : Symbol) → IsSymbol (old a b) s
      → pieces (new a b) (symbol_after a s) ≡ map (piece_after a) (pieces (old a b) s)
  pieces_same s here =
      ap (λ o. option_map_or (λ e. pieces_by e (definitions (new a b) (symbol_after a s))) o [])
      (both.regroups.homes s here) ∙ by_home (home (old a b) s) refl
    where
      plain : (i : ℕ) (g : Global) → is_appending (linkage_of g) ≡ false
          → whole (entry_after a s (record { part = i; global = g }))
          ≡ map (piece_after a) (whole (record { part = i; global = g }))
      plain i g h = go (nat_lt i (length a)) refl
        where
          go : (c : Bool) → nat_lt i (length a) ≡ c
              → whole (if c then moved a s (record { part = i; global = g }) else record {
                part =
                    suc (i - length a);
                global = g;
              })
              ≡ map (piece_after a) (whole (record { part = i; global = g }))
          go true t = first_whole a s i (below i (length a) t) g h
          go false t = later_whole a i (not_below i (length a) t) g

      by_home : (o : Option Entry) → home (old a b) s ≡ o
          → option_map_or (λ e. pieces_by e (definitions (new a b) (symbol_after a s)))
          (option_map (entry_after a s) o) []
          ≡ map (piece_after a)
          (option_map_or (λ e. pieces_by e (definitions (old a b) s)) o [])
      by_home None h = refl
      by_home (Some e) h =
          ap (λ c. if c then flat_map elements_in
          (definitions (new a b) (symbol_after a s)) else whole (entry_after a s e))
          (ap is_appending (same_linkage a b ready both rooms_kept s e))
          ∙ by_test (is_appending (linkage_of e.global)) refl
        where
          by_test : (c : Bool) → is_appending (linkage_of e.global) ≡ c
              → (if c then flat_map elements_in
              (definitions (new a b) (symbol_after a s)) else whole (entry_after a s e))
              ≡ map (piece_after a)
              (if c then flat_map elements_in (definitions (old a b) s) else whole e)
          by_test true t = appended_pieces s here (first_appended s e h t)
          by_test false t = plain e.part e.global t

  -- WHAT THEY ARE

  -- a piece of a first part has known types and names
  abbrev pub KnownFirst : ContentPiece → Type 0
  KnownFirst p = p.part < length a → KnownPiece a p

  known_of : (i : ℕ) (ps : List ContentPiece) → AllByRecursion (λ p. p.part ≡ i) ps
      → (i < length a → AllByRecursion (KnownPiece a) ps) → AllByRecursion KnownFirst ps
  known_of i ps same known = go (nat_lt i (length a)) refl
    where
      too_low : (p : ContentPiece) → p.part ≡ i → length a ≤ i → p.part < length a → ⊥
      too_low p e h k = omega arith

      go : (c : Bool) → nat_lt i (length a) ≡ c → AllByRecursion KnownFirst ps
      go true t =
          all_follow (KnownPiece a) KnownFirst ps (λ p k h. k) (known (below i (length a) t))
      go false t =
          all_follow _ KnownFirst ps
          (λ p e h. absurd (too_low p e (not_below i (length a) t) h)) same

  pub pieces_known : (s : Symbol) → AllByRecursion KnownFirst (pieces (old a b) s)
  pieces_known s = by_home (home (old a b) s) refl
    where
      all_known : (es : List Entry)
          → AllByRecursion (λ e. e.part < length a → IsKnown a e.part e.global) es
          → AllByRecursion KnownFirst (flat_map elements_in es)
      all_known es all =
          all_flat KnownFirst elements_in es
          (all_follow _ _ es
          (λ e k. known_of e.part (elements_in e)
          (entry_part a (λ j. j ≡ e.part) e.part e.global refl)
          (λ h. entry_elements_known a e.part e.global (k h))) all)

      all_definitions : AllByRecursion (λ e. e.part < length a
          → IsKnown a e.part e.global) (definitions (old a b) s)
      all_definitions =
          all_filter _ is_definition _
          (all_filter _ (λ e. same_symbol s (symbol_of e)) (entries (old a b))
          (known_first a b ready both rooms_kept))

      by_home : (o : Option Entry) → home (old a b) s ≡ o
          → AllByRecursion KnownFirst
          (option_map_or (λ e. pieces_by e (definitions (old a b) s)) o [])
      by_home None h = tt
      by_home (Some e) h =
          go (is_appending (linkage_of e.global))
          (all_known (definitions (old a b) s) all_definitions)
          (known_of e.part (whole e) (whole_part a (λ j. j ≡ e.part) e.part e.global refl)
          (λ low. whole_known a e.part e.global
          ((home_is (old a b) _ s e (known_first a b ready both rooms_kept) h).0.0 low)))
        where
          go : (c : Bool)
              → AllByRecursion KnownFirst (flat_map elements_in (definitions (old a b) s))
              → AllByRecursion KnownFirst (whole e)
              → AllByRecursion KnownFirst
              (if c then flat_map elements_in (definitions (old a b) s) else whole e)
          go true x y = x
          go false x y = y

  -- the shape and the leaves of a piece
  shape_same : (p : ContentPiece) → KnownFirst p
      → shape_of (names_in (new a b) (piece_after a p).part) (piece_after a p).ty
      ≡ shape_of (names_in (old a b) p.part) p.ty
  shape_same p known = go (nat_lt p.part (length a)) refl
    where
      go : (c : Bool) → nat_lt p.part (length a) ≡ c
          → shape_of
          (names_in (new a b)
          (if c then moved_piece a p else record {
            part = suc (p.part - length a);
            ty =
                p.ty;
            value = p.value;
          }).part)
          (if c then moved_piece a p else record {
            part =
                suc (p.part - length a);
            ty = p.ty;
            value = p.value;
          }).ty
          ≡ shape_of (names_in (old a b) p.part) p.ty
      go true t = let low =
          below p.part (length a) t in (first_agree a b both rooms_kept p.part low).same_shape p.ty
          (known low).0
      go false t =
          λ k. shape_of
          (later_same a b both rooms_kept ready p.part (not_below p.part (length a) t) k) p.ty

  value_same : (p : ContentPiece) → KnownFirst p
      → constant_value (names_in (new a b) (piece_after a p).part) (piece_after a p).ty
      (piece_after a p).value ≡ constant_value (names_in (old a b) p.part) p.ty p.value
  value_same p known = go (nat_lt p.part (length a)) refl
    where
      go : (c : Bool) → nat_lt p.part (length a) ≡ c
          → constant_value
          (names_in (new a b)
          (if c then moved_piece a p else record {
            part = suc (p.part - length a);
            ty =
                p.ty;
            value = p.value;
          }).part)
          (if c then moved_piece a p else record {
            part =
                suc (p.part - length a);
            ty = p.ty;
            value = p.value;
          }).ty
          (if c then moved_piece a p else record {
            part =
                suc (p.part - length a);
            ty = p.ty;
            value = p.value;
          }).value
          ≡ constant_value (names_in (old a b) p.part) p.ty p.value
      go true t =
          let low = below p.part (length a) t in
          same_constant (names_in (old a b) p.part) (names_in (new a b) 0) (new_struct a p.part)
          (new_global a p.part) (KnownTree a p.part) (KnownName a p.part)
          (first_agree a b both rooms_kept p.part low) p.ty p.value (known low).1
      go false t =
          λ k. constant_value
          (later_same a b both rooms_kept ready p.part
          (not_below p.part (length a) t) k) p.ty p.value

  contents_moved : (ps : List ContentPiece) → AllByRecursion KnownFirst ps → (at : ℕ)
      → contents_from (new a b) at (map (piece_after a) ps) ≡ contents_from (old a b) at ps
  contents_moved [] known at = refl
  contents_moved (p ∷ ps) known at =
      (λ k. zip (slots_at (shape_same p known.0 k) at) (value_same p known.0 k) ++ contents_from
      (new a b) (at + size (shape_same p known.0 k)) (map (piece_after a) ps))
      ∙ ap (λ l. zip (slots_at (shape_of (names_in (old a b) p.part) p.ty) at)
      (constant_value (names_in (old a b) p.part) p.ty p.value) ++ l)
      (contents_moved ps known.1 (at + size (shape_of (names_in (old a b) p.part) p.ty)))

  pub contents_same : (s : Symbol) → IsSymbol (old a b) s
      → contents_of (new a b) (symbol_after a s) ≡ contents_of (old a b) s
  contents_same s here = ap (contents_from (new a b) 0) (pieces_same s here)
      ∙ contents_moved (pieces (old a b) s) (pieces_known s) 0

  pub constructors_moved : (ps : List ContentPiece) → AllByRecursion KnownFirst ps
      → constructors_in (new a b) (map (piece_after a) ps) ≡ constructors_in (old a b) ps
  constructors_moved [] known = refl
  constructors_moved (p ∷ ps) known =
      ap₂ (λ v l. cons_option (constructor_of v) l) (value_same p known.0)
      (constructors_moved ps known.1)
