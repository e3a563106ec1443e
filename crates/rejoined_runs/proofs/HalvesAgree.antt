-- The halves of a module have no conflict: each entry has one source, which is kept in one half.
use Rattle.std.proofs.Common.{◌≡◌, ℕ, zero, suc, ◌<◌, Bool, true, false, not, ◌&&◌, List, [], ◌∷◌, ◌++◌, map, length, Option, Some, None, refl, sym, ap, ◌∙◌, subst, find, bytes_eq, arith}
use Rattle.std.specs.Prelude.{slice_index_or, is_some, if◌then◌else◌}
use Rattle.std.specs.List.{list_any, AllByRecursion}
use Rattle.std.proofs.lemmas.Bool.{cond-true, cond-false, both_ways, and_parts, or_parts, not-true, false_from_ne_true}
use Rattle.std.proofs.lemmas.Option.{same_Some}
use Rattle.ir_tables.specs.declared.linkage.Linkage.{Linkage}
use Rattle.ir_tables.specs.declared.linkage.Linkage.TheVariants.{External, Private, Internal, AvailableExternally, Linkonce, LinkonceOdr, Weak, WeakOdr, Common, Appending, ExternWeak}
use Rattle.type_table.specs.Tree.{Tree, array, int, ptr, void, struct, named}
use Rattle.module_arena.specs.Module.{Bytes, Variable, AliasType, PlainType, FunctionType, Alias, Function, Module}
use Rattle.module_arena.specs.Valid.{IsValid}
use Rattle.module_arena.specs.WellFormed.{IsWellFormed}
use Rattle.linkage_rules.specs.declared.conflict.ConflictKind.{ConflictKind}
use Rattle.linkage_rules.specs.declared.conflict.ConflictKind.TheVariants.{TwoStrong, FunctionAndVariable, AppendingAndPlain, ElementShape, Constness}
use Rattle.linkage_rules.specs.Conflicts.{Conflict, FoundConflict, is_strong, appends, elements_alike, clash, conflicts, first_conflict}
use Rattle.linkage_rules.specs.Entries.{Entry, entries, same_symbol, symbol_of, mentions}
use Rattle.linkage_rules.specs.Globals.{Global, OfVariable, OfFunction, OfAlias, name_of, linkage_of, is_variable, is_plain, is_constant, type_of, element_of, globals}
use Rattle.linkage_rules.specs.Linkages.{is_local, is_external, is_appending}
use Rattle.linkage_rules.specs.Lists.{first}
use Rattle.linkage_rules.specs.SameShape.{agree, alike}
use Rattle.linkage_rules.specs.SymbolLaws.{name_self, name_exact}
use Rattle.linkage_rules.specs.Winner.{is_definition, shape_in}
use Rattle.linkage_rules.specs.declared.symbol.Symbol.TheVariants.{Shared, Local}
use Rattle.linkage_rules.proofs.Entries.{all_follow, all_passing}
use Rattle.linkage_rules.proofs.Gathered.{all_joined, all_mapped}
use Rattle.linkage_rules.proofs.Shapes.{agree_self, alike_self}
use Rattle.link_rules.proofs.Agreed.{AreDistinct}
use Rattle.link_rules.proofs.Apart.{Apart}
use Rattle.link_rules.proofs.Asked.{of_aliases, of_functions}
use Rattle.link_rules.proofs.Conflicting.{told_are}
use Rattle.link_rules.proofs.Distinct.{are_distinct}
use Rattle.link_rules.proofs.Searches.{all_front, all_back, all_both}
use Rattle.extract_rules.specs.declared.selection.Selection.{Selection}
use Rattle.extract_rules.specs.Selected.{is_among, keeps, keeps_variable, keeps_function, keeps_alias, chosen}
use Rattle.extract_rules.specs.Extracted.{kept_names, kept_linkage, declared_linkage, without_elements, declared_variable, alias_as_variable, alias_as_function, extracted_variable, extracted_function, extracted_alias, declared_aliases, Extracted}
use Rattle.extract_rules.proofs.OnValid.Functions.{kept_appending}
use Rattle.extract_rules.proofs.OnValid.Constants.{constants_good}
use Rattle.extract_rules.proofs.OnValid.WellFormedButConstants.{well_formed_but_constants}
use Rattle.extract_rules.proofs.OnValid.Gathered.{made_all}
use Rattle.extract_rules.proofs.OnValid.Kept.{either}
use Rattle.rejoined_runs.specs.Halves.{turned, halves, HalvesAgree}

-- ---- lists

contains_all : {A : Type 0} (P : A → Type 0) (xs : List A) (k : ℕ) (x : A) → k < length xs
    → slice_index_or xs k x ≡ x → AllByRecursion P xs → P x
contains_all P [] k x h i all = absurd (omega (arith, h))
contains_all P (y ∷ xs) zero x h i all = subst P i all.0
contains_all P (y ∷ xs) (suc k) x h i all = contains_all P xs k x (omega (arith, h)) i all.1

all_unmapped : {A B : Type 0} (P : B → Type 0) (f : A → B) (xs : List A)
    → AllByRecursion P (map f xs) → AllByRecursion (λ x. P (f x)) xs
all_unmapped P f [] all = tt
all_unmapped P f (x ∷ xs) all = (all.0, all_unmapped P f xs all.1)

-- the global of that name
abbrev pub named_in : List Global → Bytes → Option Global
named_in gs n = find (λ g. bytes_eq n (name_of g)) gs

others_differ : (n : Bytes) (gs : List Global) → list_any (bytes_eq n) (map name_of gs) ≡ false
    → AllByRecursion (λ g. bytes_eq (name_of g) n ≡ false) gs
others_differ n [] h = tt
others_differ n (g ∷ gs) h =
    let parts = or_parts (bytes_eq n (name_of g)) _ h in
    (turn (name_of g) parts.0, others_differ n gs parts.1)
  where
    turn : (k : Bytes) → bytes_eq n k ≡ false → bytes_eq k n ≡ false
    turn k h =
        false_from_ne_true _
        (λ t. both_ways _ h
        (subst (λ j. bytes_eq n j ≡ true) (sym (name_exact k n t)) (name_self n)))

each_named : (gs : List Global) → Apart bytes_eq (map name_of gs)
    → AllByRecursion (λ g. named_in gs (name_of g) ≡ Some g) gs
each_named [] a = tt
each_named (g ∷ gs) a = (
  cond-true (bytes_eq (name_of g) (name_of g)) _ _ (name_self (name_of g)),
  all_follow _ _ gs (λ x h. cond-false (bytes_eq (name_of x) (name_of g)) _ _ h.1
      ∙ h.0) (all_both _ _ gs (each_named gs a.1) (others_differ (name_of g) gs a.0)),
)

-- ---- sources

-- what a definition is kept by: its name, or its target's
abbrev pub key_of : Global → Bytes
key_of (OfVariable v) = v.name
key_of (OfFunction f) = f.name
key_of (OfAlias a) = a.target

-- an entry of a half, and what it was
pub record HasSource (m : Module) (s : Selection) (d : Global) : Type 0 where
  pub source : Global
  pub found : named_in (globals m) (name_of d) ≡ Some source
  pub variable : is_variable d ≡ is_variable source
  pub append : is_appending (linkage_of d) ≡ is_appending (linkage_of source)
  pub element : is_appending (linkage_of source) ≡ true
      → element_of (type_of d) ≡ element_of (type_of source)
  pub constant : is_appending (linkage_of source) ≡ true → is_constant d ≡ is_constant source
  pub strong : (part : ℕ) → is_strong (record { part = part; global = d }) ≡ true
      → keeps m s (key_of source) ≡ true

element_without : (t : Tree) → element_of (without_elements t) ≡ element_of t
element_without (array n t) = refl
element_without (int w) = refl
element_without ptr = refl
element_without void = refl
element_without (struct packed ts) = refl
element_without (named name) = refl

declared_plain : (l : Linkage) → is_appending (declared_linkage l) ≡ false
declared_plain ExternWeak = refl
declared_plain External = refl
declared_plain Private = refl
declared_plain Internal = refl
declared_plain AvailableExternally = refl
declared_plain Linkonce = refl
declared_plain LinkonceOdr = refl
declared_plain Weak = refl
declared_plain WeakOdr = refl
declared_plain Common = refl
declared_plain Appending = refl

module _ (m : Module) (s : Selection) where
  -- a global that its name finds
  abbrev IsNamed : Global → Type 0
  IsNamed g = named_in (globals m) (name_of g) ≡ Some g

  -- VARIABLES

  kept_variable_source : (v : Variable) → IsNamed (OfVariable v) → keeps_variable m s v ≡ true
      → HasSource m s (OfVariable (record v { linkage = kept_linkage v.linkage }))
  kept_variable_source v h k = record {
    source = OfVariable v;
    found = h;
    variable = refl;
    append = kept_appending v.linkage;
    element = λ t. refl;
    constant = λ t. refl;
    strong = λ part t. (and_parts (is_some v.initialiser) _ k).1;
  }

  plain_source : (v : Variable) (l : Linkage) → v.linkage ≡ l → is_appending l ≡ false
      → IsNamed (OfVariable v)
      → HasSource m s
      (OfVariable (record v { linkage = declared_linkage l; initialiser = None }))
  plain_source v l e plain h = record {
    source = OfVariable v;
    found = h;
    variable = refl;
    append = declared_plain l ∙ sym (ap is_appending e ∙ plain);
    element = λ t. refl;
    constant = λ t. refl;
    strong = λ part t. cc;
  }

  declared_variable_source : (v : Variable) (l : Linkage) → v.linkage ≡ l → IsNamed (OfVariable v)
      → HasSource m s (OfVariable (declared_variable l v))
  declared_variable_source v Appending e h = record {
    source = OfVariable v;
    found = h;
    variable = refl;
    append = refl;
    element = λ t. element_without v.ty;
    constant = λ t. refl;
    strong = λ part t.
        absurd (both_ways (is_external v.linkage) (ap is_external e)
        (and_parts
        (is_definition
        (record { part = part; global = OfVariable (declared_variable Appending v) }))
        (is_external v.linkage) t).1);
  }
  declared_variable_source v External e h = plain_source v External e refl h
  declared_variable_source v Private e h = plain_source v Private e refl h
  declared_variable_source v Internal e h = plain_source v Internal e refl h
  declared_variable_source v AvailableExternally e h = plain_source v AvailableExternally e refl h
  declared_variable_source v Linkonce e h = plain_source v Linkonce e refl h
  declared_variable_source v LinkonceOdr e h = plain_source v LinkonceOdr e refl h
  declared_variable_source v Weak e h = plain_source v Weak e refl h
  declared_variable_source v WeakOdr e h = plain_source v WeakOdr e refl h
  declared_variable_source v Common e h = plain_source v Common e refl h
  declared_variable_source v ExternWeak e h = plain_source v ExternWeak e refl h

  variable_source : (v : Variable) → IsNamed (OfVariable v) → (y : Variable)
      → extracted_variable m s v ≡ Some y → HasSource m s (OfVariable y)
  variable_source v h y e =
      either (λ z. HasSource m s (OfVariable z)) (keeps_variable m s v)
      (is_among (kept_names m s) v.name) _ _ y e
      (λ k. kept_variable_source v h k) (λ k l. declared_variable_source v v.linkage refl h)

  -- FUNCTIONS AND ALIASES

  -- one that is not appended
  abbrev IsPlain : Global → Type 0
  IsPlain g = IsNamed g × (is_appending (linkage_of g) ≡ false)

  function_source : (f : Function) → IsPlain (OfFunction f) → (y : Function)
      → extracted_function m s f ≡ Some y → HasSource m s (OfFunction y)
  function_source f h y e =
      either (λ z. HasSource m s (OfFunction z)) (keeps_function m s f)
      (is_among (kept_names m s) f.name) _ _ y e
      (λ k. record {
        source = OfFunction f;
        found = h.0;
        variable = refl;
        append = kept_appending f.linkage;
        element = λ t. refl;
        constant = λ t. refl;
        strong = λ part t. (and_parts (is_some f.body) _ k).1;
      })
      (λ k l. record {
        source = OfFunction f;
        found = h.0;
        variable = refl;
        append = declared_plain f.linkage ∙ sym h.1;
        element = λ t. refl;
        constant = λ t. refl;
        strong = λ part t. cc;
      })

  alias_source : (x : Alias) → IsPlain (OfAlias x) → (y : Alias) → extracted_alias m s x ≡ Some y
      → HasSource m s (OfAlias y)
  alias_source x h y e = go (keeps_alias m s x) refl e
    where
      go : (c : Bool) → keeps_alias m s x ≡ c
          → (if c then Some (record x { linkage = kept_linkage x.linkage }) else None) ≡ Some y
          → HasSource m s (OfAlias y)
      go true k e =
          subst (λ z. HasSource m s (OfAlias z))
          (same_Some (record x { linkage = kept_linkage x.linkage }) y e)
          (record {
            source = OfAlias x;
            found = h.0;
            variable = refl;
            append =
                kept_appending x.linkage;
            element = λ t. refl;
            constant = λ t. refl;
            strong =
                λ part t. k;
          })
      go false k e = cc

  as_variable_source : (x : Alias) → IsPlain (OfAlias x) → (y : Variable)
      → alias_as_variable m x.name x.target x.ty ≡ Some y → HasSource m s (OfVariable y)
  as_variable_source x h y e = go x.ty refl e
    where
      go : (t : AliasType) → x.ty ≡ t → alias_as_variable m x.name x.target t ≡ Some y
          → HasSource m s (OfVariable y)
      go (PlainType t) k e = subst (λ z. HasSource m s (OfVariable z)) (same_Some _ y e) (record {
        source = OfAlias x;
        found = h.0;
        variable = sym (ap is_plain k);
        append = sym h.1;
        element = λ u. absurd (both_ways (is_appending x.linkage) h.1 u);
        constant = λ u. absurd (both_ways (is_appending x.linkage) h.1 u);
        strong = λ part u. cc;
      })
      go (FunctionType signature) k e = cc

  as_function_source : (x : Alias) → IsPlain (OfAlias x) → (y : Function)
      → alias_as_function x.name x.ty ≡ Some y → HasSource m s (OfFunction y)
  as_function_source x h y e = go x.ty refl e
    where
      go : (t : AliasType) → x.ty ≡ t → alias_as_function x.name t ≡ Some y
          → HasSource m s (OfFunction y)
      go (PlainType t) k e = cc
      go (FunctionType signature) k e =
          subst (λ z. HasSource m s (OfFunction z)) (same_Some _ y e) (record {
            source = OfAlias x;
            found = h.0;
            variable = sym (ap is_plain k);
            append = sym h.1;
            element = λ t. refl;
            constant = λ u. absurd (both_ways (is_appending x.linkage) h.1 u);
            strong = λ part u. cc;
          })

  -- ALL

  module _ (formed : IsWellFormed m) (valid : IsValid m) where
    all_named : AllByRecursion IsNamed (globals m)
    all_named = each_named (globals m) (are_distinct m formed)

    named_variables : AllByRecursion (λ v. IsNamed (OfVariable v)) m.variables
    named_variables =
        all_unmapped IsNamed OfVariable m.variables
        (all_front IsNamed (map OfVariable m.variables) (map OfFunction m.functions)
        (all_front IsNamed (map OfVariable m.variables ++ map OfFunction m.functions)
        (map OfAlias m.aliases) all_named))

    plain_functions : AllByRecursion (λ f. IsPlain (OfFunction f)) m.functions
    plain_functions =
        all_both _ _ m.functions
        (all_unmapped IsNamed OfFunction m.functions
        (all_back IsNamed (map OfVariable m.variables) (map OfFunction m.functions)
        (all_front IsNamed (map OfVariable m.variables ++ map OfFunction m.functions)
        (map OfAlias m.aliases) all_named)))
        (all_follow _ _ m.functions (λ f h. not-true (is_appending f.linkage) h.1.1.0)
        (of_functions m valid))

    plain_aliases : AllByRecursion (λ x. IsPlain (OfAlias x)) m.aliases
    plain_aliases =
        all_both _ _ m.aliases
        (all_unmapped IsNamed OfAlias m.aliases
        (all_back IsNamed (map OfVariable m.variables ++ map OfFunction m.functions)
        (map OfAlias m.aliases) all_named))
        (all_follow _ _ m.aliases (λ x h. not-true (is_appending x.linkage) h.1.1.0)
        (of_aliases m valid))

    plain_declared : AllByRecursion (λ x. IsPlain (OfAlias x)) (declared_aliases m s)
    plain_declared =
        all_follow _ _ (declared_aliases m s) (λ x h. h.0) (all_passing _ _ m.aliases plain_aliases)

    pub all_sourced : AllByRecursion (HasSource m s) (globals (Extracted m s))
    all_sourced =
        all_joined _
        (map OfVariable (Extracted m s).variables ++ map OfFunction (Extracted m s).functions)
        (map OfAlias (Extracted m s).aliases)
        (all_joined _ (map OfVariable (Extracted m s).variables)
        (map OfFunction (Extracted m s).functions)
        (all_mapped _ OfVariable (Extracted m s).variables
        (all_joined _ _ _
        (made_all _ (extracted_variable m s) _ variable_source m.variables named_variables)
        (made_all _
        (λ (x : Alias). alias_as_variable m x.name x.target x.ty) _ as_variable_source (declared_aliases m s) plain_declared)))
        (all_mapped _ OfFunction (Extracted m s).functions
        (all_joined _ _ _
        (made_all _ (extracted_function m s) _ function_source m.functions plain_functions)
        (made_all _ (λ (x : Alias). alias_as_function x.name x.ty) _ as_function_source
        (declared_aliases m s) plain_declared))))
        (all_mapped _ OfAlias (Extracted m s).aliases
        (made_all _ (extracted_alias m s) _ alias_source m.aliases plain_aliases))

-- ---- both halves

-- nothing is kept in both
never_both : (m : Module) (s : Selection) (n : Bytes) → keeps m s n ≡ true
    → keeps m (turned s) n ≡ true → ⊥
never_both m s n h k = go s.delete (is_among (chosen m s) n) h k
  where
    go : (d c : Bool) → (if d then not c else c) ≡ true → (if not d then not c else c) ≡ true → ⊥
    go true true h k = cc
    go true false h k = cc
    go false true h k = cc
    go false false h k = cc

module _ (m : Module) (s : Selection) (formed : IsWellFormed m) (valid : IsValid m) where
  abbrev parts : List Module
  parts = halves m s

  -- an entry of one of the halves
  abbrev OfHalf : Entry → Type 0
  OfHalf e = (e.part ≡ 0
      → HasSource m s e.global) × ((e.part ≡ 1 → HasSource m (turned s) e.global) × (e.part < 2))

  of_halves : AllByRecursion OfHalf (entries parts)
  of_halves =
      all_joined OfHalf
      (map (λ g. let e : Entry = record { part = 0; global = g } in e)
      (globals (Extracted m s)))
      (map (λ g. let e : Entry = record { part = 1; global = g } in e)
      (globals (Extracted m (turned s))) ++ [])
      (all_mapped OfHalf (λ g. let e : Entry = record { part = 0; global = g } in e)
      (globals (Extracted m s))
      (all_follow (HasSource m s) _ (globals (Extracted m s))
      (λ g h. ((λ e. h), ((λ e. absurd (omega arith)), omega arith)))
      (all_sourced m s formed valid)))
      (all_joined OfHalf
      (map (λ g. let e : Entry = record { part = 1; global = g } in e)
      (globals (Extracted m (turned s)))) []
      (all_mapped OfHalf (λ g. let e : Entry = record { part = 1; global = g } in e)
      (globals (Extracted m (turned s)))
      (all_follow (HasSource m (turned s)) _ (globals (Extracted m (turned s)))
      (λ g h. ((λ e. absurd (omega arith)), ((λ e. h), omega arith)))
      (all_sourced m (turned s) formed valid)))
      tt)

  shared_name : (n : Bytes) (e : Entry) → same_symbol (Shared n) (symbol_of e) ≡ true
      → name_of e.global ≡ n
  shared_name n e h = go (is_local (linkage_of e.global)) h
    where
      go : (c : Bool)
          → same_symbol (Shared n)
          (if c then Local e.part (name_of e.global) else Shared (name_of e.global)) ≡ true
          → name_of e.global ≡ n
      go true h = cc
      go false h = sym (name_exact n (name_of e.global) h)

  all_mentioned : (n : Bytes)
      → AllByRecursion (λ e. OfHalf e × (name_of e.global ≡ n)) (mentions parts n)
  all_mentioned n =
      all_follow _ _ (mentions parts n) (λ e h. (h.0, shared_name n e h.1))
      (all_passing OfHalf (λ e. same_symbol (Shared n) (symbol_of e)) (entries parts) of_halves)

  module _ (d e : Entry) (d_part : d.part ≡ 0) (e_part : e.part ≡ 1) (one : HasSource m s d.global)
      (other : HasSource m (turned s) e.global)
      (same_name : name_of d.global ≡ name_of e.global) where
    same_source : one.source ≡ other.source
    same_source =
        same_Some one.source other.source (sym one.found ∙ ap (named_in (globals m)) same_name
        ∙ other.found)

    same_kind : is_variable d.global ≡ is_variable e.global
    same_kind = one.variable ∙ ap is_variable same_source ∙ sym other.variable

    same_append : appends d ≡ appends e
    same_append = one.append ∙ ap (λ g. is_appending (linkage_of g)) same_source ∙ sym other.append

    same_element : appends d ≡ true → element_of (type_of d.global) ≡ element_of (type_of e.global)
    same_element h = one.element (sym one.append ∙ h) ∙ ap (λ g. element_of (type_of g)) same_source
        ∙ sym (other.element (sym other.append ∙ sym same_append ∙ h))

    same_constant : appends d ≡ true → is_constant d.global ≡ is_constant e.global
    same_constant h = one.constant (sym one.append ∙ h) ∙ ap is_constant same_source
        ∙ sym (other.constant (sym other.append ∙ sym same_append ∙ h))

    same_shape : appends d ≡ true
        → shape_in parts d.part (element_of (type_of d.global))
        ≡ shape_in parts e.part (element_of (type_of e.global))
    same_shape h = (λ i. shape_in parts (d_part i) (same_element h i))
        ∙ ap (λ i. shape_in parts i (element_of (type_of e.global))) (sym e_part)

    no_clash : (kind : ConflictKind) → clash parts kind d e ≡ true → ⊥
    no_clash TwoStrong h =
        let both = and_parts (is_strong d) (is_strong e) h in
        never_both m s (key_of one.source) (one.strong d.part both.0)
        (subst (λ g. keeps m (turned s) (key_of g) ≡ true) (sym same_source)
        (other.strong e.part both.1))
    no_clash FunctionAndVariable h =
        both_ways (not (agree (is_variable d.global) (is_variable e.global)))
        (ap (λ v. not (agree v (is_variable e.global))) same_kind
        ∙ ap not (agree_self (is_variable e.global))) h
    no_clash AppendingAndPlain h =
        both_ways (not (agree (appends d) (appends e)))
        (ap (λ v. not (agree v (appends e))) same_append ∙ ap not (agree_self (appends e))) h
    no_clash ElementShape h =
        let whole = and_parts (appends d && appends e) _ h in
        let appended = (and_parts (appends d) (appends e) whole.0).0 in
        both_ways (not (elements_alike parts d e))
        (ap (λ o. not (alike o (shape_in parts e.part (element_of (type_of e.global)))))
        (same_shape appended)
        ∙ ap not (alike_self
        (shape_in parts e.part (element_of (type_of e.global))))) whole.1
    no_clash Constness h =
        let whole = and_parts (appends d && appends e) _ h in
        let appended = (and_parts (appends d) (appends e) whole.0).0 in
        both_ways (not (agree (is_constant d.global) (is_constant e.global)))
        (ap (λ v. not (agree v (is_constant e.global))) (same_constant appended)
        ∙ ap not (agree_self (is_constant e.global))) whole.1

  no_conflict : (kind : ConflictKind) (n : Bytes) (i j : ℕ) → Conflict parts kind n i j → ⊥
  no_conflict kind n i j c =
      let one =
      contains_all _ (mentions parts n) c.one_is.0 c.one c.one_is.1 c.one_is.2
      (all_mentioned n) in
      let other =
      contains_all _ (mentions parts n) c.other_is.0 c.other c.other_is.1 c.other_is.2
      (all_mentioned n) in
      let low : c.other.part < 2 = other.0.1.1 in
      let one_part : c.one.part ≡ 0 = omega (arith, c.one_part, c.other_part, c.in_order, low) in
      let other_part : c.other.part ≡ 1 =
      omega (arith, c.one_part, c.other_part, c.in_order, low) in
      no_clash c.one c.other one_part other_part (one.0.0 one_part) (other.0.1.0 other_part) (one.1
      ∙ sym other.1) kind c.clashes

  distinct_halves : AllByRecursion AreDistinct parts
  distinct_halves = (
    are_distinct (Extracted m s)
        (well_formed_but_constants m s formed valid (constants_good m s formed)),
    (
      are_distinct (Extracted m (turned s))
          (well_formed_but_constants m (turned s) formed valid
          (constants_good m (turned s) formed)),
      tt,
    ),
  )

  pub none : first_conflict parts ≡ None
  none = go (conflicts parts) (told_are parts distinct_halves)
    where
      go : (cs : List FoundConflict)
          → AllByRecursion (λ c. Conflict parts c.kind c.name c.one c.other) cs → first cs ≡ None
      go [] all = refl
      go (c ∷ cs) all = absurd (no_conflict c.kind c.name c.one c.other all.0)

pub halves_agree : HalvesAgree
halves_agree m s formed valid = none m s formed valid
