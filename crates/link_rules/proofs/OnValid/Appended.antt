-- An appended array of the linked module is of the elements of all parts.
use Rattle.std.proofs.Common.{◌≡◌, ℕ, ◌+◌, ◌<◌, ◌≤◌, Bool, true, false, not, ◌||◌, ◌⊎◌, inl, inr, List, [], ◌∷◌, ◌++◌, map, Option, Some, None, refl, sym, ap, ◌∙◌, subst, flat_map, nat_eq, nat_lt, arith, eqb-true, ltb-true, ltb-false}
use Rattle.std.specs.Prelude.{slice_get}
use Rattle.std.specs.Option.{option_map_or}
use Rattle.std.specs.List.{list_all, AllByRecursion}
use Rattle.std.proofs.lemmas.List.Sums.{sum_by-cons}
use Rattle.std.proofs.lemmas.Bool.{and_from, and_parts, cases_Bool, eqb-false, false≢true, not-true}
use Rattle.type_table.specs.Tree.{Tree, int, ptr, void, array, struct, named}
use Rattle.module_arena.specs.Module.{Bytes, Constant, Constants, Variable, Module}
use Rattle.module_arena.specs.Module.Brackets.{Square, Braces, Packed}
use Rattle.module_arena.specs.Module.Constant.{Integer, Truth, Null, Undef, Poison, ZeroInitializer, Address, ByteString, Aggregate, ElementAddress, Cast, Binary}
use Rattle.module_arena.specs.Module.Constants.{no_constants}
use Rattle.module_arena.specs.Renamed.{renamed_tree, renamed_constants}
use Rattle.module_arena.specs.TypeTests.{is_free_of_names, lies_in_memory}
use Rattle.module_arena.specs.Constants.{fits}
use Rattle.linkage_rules.specs.Globals.{Global, OfVariable, OfFunction, OfAlias, name_of, linkage_of, type_of, element_of, length_of, initialiser_of}
use Rattle.linkage_rules.specs.Linkages.{is_appending}
use Rattle.linkage_rules.specs.Entries.{Entry, entries, part_at, symbol_of}
use Rattle.linkage_rules.specs.declared.symbol.Symbol.TheVariants.{Shared}
use Rattle.linkage_rules.specs.Winner.{shape_in}
use Rattle.linkage_rules.specs.SameShape.{agree}
use Rattle.linkage_rules.specs.declared.conflict.ConflictKind.TheVariants.{AppendingAndPlain, ElementShape}
use Rattle.linkage_rules.specs.Conflicts.{elements_alike}
use Rattle.linkage_rules.specs.Contents.Contents.{elements_of, elements_in}
use Rattle.linkage_rules.specs.Addresses.{joined_length}
use Rattle.linkage_rules.proofs.Shapes.{alike_exact}
use Rattle.link_rules.specs.Rename.{new_global}
use Rattle.link_rules.specs.Structs.{new_struct}
use Rattle.link_rules.specs.Linked.{linked_pieces, link_result}
use Rattle.link_rules.proofs.OnValid.Types.{nameless_same}
use Rattle.link_rules.proofs.OnValid.Entries.{no_intrinsic, types, initialiser_fits_kept}
use Rattle.link_rules.proofs.OnValid.Pieces.{after, linked_after, AreElements, no_elements, elements_after}
use Rattle.link_rules.proofs.OnValid.PartEntries.{HasAt, EntryHolds}
use Rattle.link_rules.specs.Valid.Laws.{AreLinkable}
use Rattle.link_rules.proofs.OnValid.Renaming.{good_at}
use Rattle.link_rules.proofs.OnValid.Callees.{part_renames}
use Rattle.link_rules.proofs.OnValid.Strong.{one_entry, no_clash}
use Rattle.link_rules.proofs.OnValid.LinkedRows.{appending_same}
use Rattle.module_arena.specs.EntryRules as rules

-- an entry that is an array to be appended, of elements of that type
pub record IsAppended (parts : List Module) (t : Tree) (x : Entry) : Type 0 where
  pub variable : Variable
  pub is : x.global ≡ OfVariable variable
  pub has : HasAt (part_at parts x.part) (OfVariable variable)
  pub holds : EntryHolds (part_at parts x.part) (OfVariable variable)
  pub appends : rules.is_appending variable.linkage ≡ true
  pub length : ℕ
  pub type : variable.ty ≡ array length t
  pub free : is_free_of_names t ≡ true
  pub list : Constant
  pub initialiser : variable.initialiser ≡ Some list
  pub is_list : rules.is_list_of length (Some list) ≡ true

list_parts : (u : Tree) (o : Option Constant) → rules.is_list_variable u o ≡ true → (n : ℕ) × (t : Tree) × (c : Constant) × (u ≡ array n t) × ((o ≡ Some c) × ((is_free_of_names t ≡ true) × (rules.is_list_of n (Some c) ≡ true)))
list_parts (array n t) (Some c) h = let both = and_parts (is_free_of_names t) _ h in (n, t, c, refl, (refl, both))
list_parts (array n t) None h = let both = and_parts (is_free_of_names t) _ h in absurd (false≢true both.1)
list_parts (int w) o h = cc
list_parts ptr o h = cc
list_parts void o h = cc
list_parts (struct packed ts) o h = cc
list_parts (named name) o h = cc

pub when_true : (b c : Bool) → (not b || c) ≡ true → b ≡ true → c ≡ true
when_true true c h e = h
when_true false c h e = cc

pub variable_of : (m : Module) (g : Global) → EntryHolds m g → is_appending (linkage_of g) ≡ true → (v : Variable) × (g ≡ OfVariable v)
variable_of m (OfVariable v) h a = (v, refl)
variable_of m (OfFunction f) h a = absurd (no (rules.is_appending f.linkage) (appending_same f.linkage ∙ a) h.1.1.0)
  where
    no : (b : Bool) → b ≡ true → not b ≡ true → ⊥
    no true p q = cc
    no false p q = cc
variable_of m (OfAlias f) h a = absurd (no (rules.is_appending f.linkage) (appending_same f.linkage ∙ a) h.1.1.0)
  where
    no : (b : Bool) → b ≡ true → not b ≡ true → ⊥
    no true p q = cc
    no false p q = cc

pub is_appended : (parts : List Module) (x : Entry) → HasAt (part_at parts x.part) x.global → EntryHolds (part_at parts x.part) x.global → is_appending (linkage_of x.global) ≡ true → (t : Tree) × IsAppended parts t x
is_appended parts x has holds a =
    let v = variable_of (part_at parts x.part) x.global holds a in
    let v_holds : EntryHolds (part_at parts x.part) (OfVariable v.0) = subst (EntryHolds (part_at parts x.part)) v.1 holds in
    let v_appends : rules.is_appending v.0.linkage ≡ true = appending_same v.0.linkage ∙ ap (λ g. is_appending (linkage_of g)) (sym v.1) ∙ a in
    let l = list_parts v.0.ty v.0.initialiser (when_true (rules.is_appending v.0.linkage) _ v_holds.1.1.0 v_appends) in
    (l.1, record { variable = v.0; is = v.1; has = subst (HasAt (part_at parts x.part)) v.1 has; holds = v_holds; appends = v_appends; length = l.0; type = l.3; free = l.4.1.0; list = l.2; initialiser = l.4.0; is_list = l.4.1.1 })

-- ELEMENTS OF ONE PART

module _ (parts : List Module) (fine : AreLinkable parts) (t : Tree) where
  -- what an entry adds to the array
  pub record Adds (x : Entry) (n : ℕ) : Type 0 where
    pub constants : Constants
    pub elements : AreElements (link_result parts) t n constants
    pub pieces : (ps : List _) → linked_pieces parts (elements_in x ++ ps) ≡ after constants (linked_pieces parts ps)

  module _ (x : Entry) (a : IsAppended parts t x) where
    names : Bytes → Bytes
    names name = new_struct parts x.part name

    plain : renamed_tree (new_struct parts x.part) t ≡ t
    plain = nameless_same (new_struct parts x.part) t a.free

    pub in_entry : elements_in x ≡ elements_of x.part a.list
    in_entry =
        ap (λ g. option_map_or (elements_of x.part) (initialiser_of g) []) a.is
        ∙ ap (λ o. option_map_or (elements_of x.part) o []) a.initialiser

    by_list : (c : Constant) → a.variable.initialiser ≡ Some c → elements_in x ≡ elements_of x.part c → rules.is_list_of a.length (Some c) ≡ true → Adds x a.length
    by_list (Aggregate Square cs) eq inside h =
        let m = part_at parts x.part in
        let renames = part_renames parts fine x.part in
        let good = good_at parts fine x.part in
        let whole = a.holds in
        let intrinsic = no_intrinsic m (link_result parts) (new_struct parts x.part) (new_global parts x.part) renames good a.has.0 a.variable a.has.1 (Some (Aggregate Square cs)) eq
        (subst (λ (o : Option Constant). option_map_or (rules.takes_no_intrinsic m a.variable.ty) o true ≡ true) eq (and_parts (rules.variable_name_suits m a.variable) _ whole.1.1.1.0).1) in
        let typed = types m (link_result parts) (new_struct parts x.part) (new_global parts x.part) renames good a.has.0 a.variable a.has.1 (Some (Aggregate Square cs)) eq
        (subst (λ (o : Option Constant). rules.variable_type_suits m.structs a.variable.ty o ≡ true) eq whole.1.1.1.1.0) in
        let fitting = initialiser_fits_kept m (link_result parts) (new_struct parts x.part) (new_global parts x.part) renames good a.has.0 a.variable a.has.1 (Some (Aggregate Square cs)) eq
        (subst (λ (o : Option Constant). option_map_or (fits m.structs a.variable.ty) o true ≡ true) eq whole.1.1.1.1.1.1.0) in
        let written = and_parts (list_all _ (rules.constant_types (renamed_constants (new_struct parts x.part) (new_global parts x.part) cs))) _ (and_parts (lies_in_memory (link_result parts).structs (renamed_tree (new_struct parts x.part) a.variable.ty)) _ typed).1 in
        record {
          constants = renamed_constants (new_struct parts x.part) (new_global parts x.part) cs;
          elements = record {
            no_intrinsic = not-true _ intrinsic;
            types = written.1;
            void_free = written.0;
            fit = subst (λ (u : Tree). fits (link_result parts).structs (array a.length u) (Aggregate Square (renamed_constants (new_struct parts x.part) (new_global parts x.part) cs)) ≡ true) plain
                (subst (λ (u : Tree). fits (link_result parts).structs (renamed_tree (new_struct parts x.part) u) (Aggregate Square (renamed_constants (new_struct parts x.part) (new_global parts x.part) cs)) ≡ true) a.type fitting);
          };
          pieces = λ ps. ap (λ l. linked_pieces parts (l ++ ps)) inside ∙ linked_after parts x.part cs ps;
        }
    by_list ZeroInitializer eq inside h = record {
      constants = no_constants;
      elements = subst (λ n. AreElements (link_result parts) t n no_constants) (sym (eqb-true a.length 0 h)) (no_elements (link_result parts) t);
      pieces = λ ps. ap (λ l. linked_pieces parts (l ++ ps)) inside;
    }
    by_list (Aggregate Braces cs) eq inside h = cc
    by_list (Aggregate Packed cs) eq inside h = cc
    by_list (Integer n) eq inside h = cc
    by_list (Truth truth) eq inside h = cc
    by_list Null eq inside h = cc
    by_list Undef eq inside h = cc
    by_list Poison eq inside h = cc
    by_list (Address name) eq inside h = cc
    by_list (ByteString bytes) eq inside h = cc
    by_list (ElementAddress flags source operands) eq inside h = cc
    by_list (Cast opcode from value to) eq inside h = cc
    by_list (Binary opcode flags l left r right) eq inside h = cc

    pub adds : Adds x a.length
    adds = by_list a.list a.initialiser in_entry a.is_list

    pub counted : length_of (type_of x.global) ≡ a.length
    counted = ap (λ g. length_of (type_of g)) a.is ∙ ap length_of a.type

  -- all elements, behind each other
  pub joined : (es : List Entry) → AllByRecursion (IsAppended parts t) es → (cs : Constants) × (AreElements (link_result parts) t (joined_length es) cs) × (linked_pieces parts (flat_map elements_in es) ≡ cs)
  joined [] a = (no_constants, no_elements (link_result parts) t, refl)
  joined (x ∷ es) a =
      let here = adds x a.0 in
      let rest = joined es a.1 in (
        after here.constants rest.0,
        subst (λ n. AreElements (link_result parts) t n (after here.constants rest.0)) (sym (sum_by-cons (λ x. x) (length_of (type_of x.global)) (map (λ (d : Entry). length_of (type_of d.global)) es) ∙ ap (λ k. k + joined_length es) (counted x a.0))) (elements_after (link_result parts) t a.0.length (joined_length es) here.constants rest.0 here.elements rest.1),
        here.pieces _ ∙ ap (after here.constants) rest.2,
      )

-- ALL DEFINITIONS OF AN APPENDED SYMBOL

module _ (parts : List Module) (fine : AreLinkable parts) where
  -- what is asked of two entries of one name, one of which is to be appended
  abbrev pub GoWith : Entry → Entry → Type 0
  GoWith e x = (is_appending (linkage_of x.global) ≡ true) × (shape_in parts x.part (element_of (type_of x.global)) ≡ shape_in parts e.part (element_of (type_of e.global)))

  unlike_agree : (a b : Bool) → a ≡ false → b ≡ true → not (agree a b) ≡ true
  unlike_agree false true p q = refl
  unlike_agree false false p q = cc
  unlike_agree true b p q = cc

  unlike_agree_back : (a b : Bool) → a ≡ true → b ≡ false → not (agree a b) ≡ true
  unlike_agree_back true false p q = refl
  unlike_agree_back true true p q = cc
  unlike_agree_back false b p q = cc

  module _ (n : Bytes) (a b : ℕ) (e x : Entry) (e_at : slice_get (entries parts) a ≡ Some e) (x_at : slice_get (entries parts) b ≡ Some x) (p : symbol_of e ≡ Shared n) (q : symbol_of x ≡ Shared n) (appends : is_appending (linkage_of e.global) ≡ true) where
    from_after : e.part < x.part → GoWith e x
    from_after below = (appends_too, alike_too (cases_Bool (elements_alike parts e x)))
      where
        appends_too : is_appending (linkage_of x.global) ≡ true
        appends_too = go (cases_Bool (is_appending (linkage_of x.global)))
          where
            go : (is_appending (linkage_of x.global) ≡ true) ⊎ (is_appending (linkage_of x.global) ≡ false) → is_appending (linkage_of x.global) ≡ true
            go (inl t) = t
            go (inr f) = absurd (no_clash parts fine AppendingAndPlain n a b e x e_at x_at p q below (unlike_agree_back _ _ appends f))

        alike_too : (elements_alike parts e x ≡ true) ⊎ (elements_alike parts e x ≡ false) → shape_in parts x.part (element_of (type_of x.global)) ≡ shape_in parts e.part (element_of (type_of e.global))
        alike_too (inl t) = sym (alike_exact _ _ t)
        alike_too (inr f) = absurd (no_clash parts fine ElementShape n a b e x e_at x_at p q below (and_from _ _ (and_from _ _ appends appends_too) (ap not f)))

    from_before : x.part < e.part → GoWith e x
    from_before below = (appends_too, alike_too (cases_Bool (elements_alike parts x e)))
      where
        appends_too : is_appending (linkage_of x.global) ≡ true
        appends_too = go (cases_Bool (is_appending (linkage_of x.global)))
          where
            go : (is_appending (linkage_of x.global) ≡ true) ⊎ (is_appending (linkage_of x.global) ≡ false) → is_appending (linkage_of x.global) ≡ true
            go (inl t) = t
            go (inr f) = absurd (no_clash parts fine AppendingAndPlain n b a x e x_at e_at q p below (unlike_agree _ _ f appends))

        alike_too : (elements_alike parts x e ≡ true) ⊎ (elements_alike parts x e ≡ false) → shape_in parts x.part (element_of (type_of x.global)) ≡ shape_in parts e.part (element_of (type_of e.global))
        alike_too (inl t) = alike_exact _ _ t
        alike_too (inr f) = absurd (no_clash parts fine ElementShape n b a x e x_at e_at q p below (and_from _ _ (and_from _ _ appends_too appends) (ap not f)))

    pub go_with : name_of x.global ≡ name_of e.global → GoWith e x
    go_with names_same = by_part (cases_Bool (nat_eq x.part e.part)) (cases_Bool (nat_lt x.part e.part))
      where
        by_part : (nat_eq x.part e.part ≡ true) ⊎ (nat_eq x.part e.part ≡ false) → (nat_lt x.part e.part ≡ true) ⊎ (nat_lt x.part e.part ≡ false) → GoWith e x
        by_part (inl t) o = subst (GoWith e) (sym (one_entry parts fine b a x e x_at e_at (eqb-true x.part e.part t) names_same)) (appends, refl)
        by_part (inr u) (inl t) = from_before (ltb-true x.part e.part t)
        by_part (inr u) (inr v) = from_after (later (ltb-false x.part e.part v))
          where
            later : e.part ≤ x.part → e.part < x.part
            later h = let ne = eqb-false x.part e.part u in omega arith
