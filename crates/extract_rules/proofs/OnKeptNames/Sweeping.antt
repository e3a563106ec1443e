-- Constants that are opened one after another, from the last one on.
use Rattle.std.proofs.Common.{◌≡◌, ℕ, zero, suc, ◌<◌, ◌≤◌, ◌-◌, Bool, true, false, ◌||◌, List, [], ◌∷◌, ◌++◌, flat_map, length, take, Some, refl, sym, ap, ap₂, ◌∙◌, bytes_eq, slice_get, get_or, arith, if◌then◌else◌}
use Rattle.std.specs.Prelude.{slice_index_or}
use Rattle.std.specs.List.{AllByRecursion}
use Rattle.std.proofs.lemmas.List.Elements.{recursion_from_All}
use Rattle.std.proofs.lemmas.Option.{slice_get-get_or}
use Rattle.std.proofs.lemmas.List.Folds.{list_any-append}
use Rattle.type_table.specs.Tree.{Tree}
use Rattle.type_table.specs.Types.{trees}
use Rattle.module_arena.specs.declared.constant.Const as the_const
use Rattle.module_arena.specs.declared.constant.Const.TheVariants as const
use Rattle.module_arena.specs.declared.constant.TypedConst.{TypedConst}
use Rattle.module_arena.specs.Changes.{constant_in}
use Rattle.module_arena.specs.Known.{IsGood}
use Rattle.module_arena.specs.Lists.{Lists}
use Rattle.module_arena.specs.Mentions.{typed_in}
use Rattle.module_arena.specs.Module.{Bytes, Constant}
use Rattle.module_arena.specs.UsedNames.{names_in_constant, names_in_constants}
use Rattle.module_arena.specs.View.{constants_at, constants_of}
use Rattle.module_arena.proofs.ConstantsTold.{const_known, constant_here}
use Rattle.module_arena.proofs.ModuleOf.{length-constants_of}
use Rattle.extract_rules.specs.Calls.{Adds}
use Rattle.extract_rules.specs.KeptNames.Marks.{IsAmongEach, Marks, MarksAll, in_const, in_parts, marked_names, own_names}
use Rattle.extract_rules.specs.Selected.{is_among}
use Rattle.extract_rules.proofs.Adding.{take_whole, or_nothing}

-- ---- the names in a constant

typed_names : (ts : List Tree) (cs : List Constant) (es : List TypedConst) → names_in_constants (constants_at ts cs es) ≡ flat_map (λ t. in_const cs t.value) es
typed_names ts cs [] = refl
typed_names ts cs (e ∷ es) = ap (λ l. in_const cs e.value ++ l) (typed_names ts cs es)

names_split : (a : Lists) (c : the_const.Const) → names_in_constant (constant_in a c) ≡ own_names a c ++ in_parts (constants_of a) c
names_split a (const.Address g) = refl
names_split a (const.Aggregate round elements) = typed_names (trees a.table) (constants_of a) elements
names_split a (const.ElementAddress flags address) = typed_names (trees a.table) (constants_of a) address.operands
names_split a (const.Cast opcode operand to) = refl
names_split a (const.Binary opcode flags pair) = refl
names_split a (const.Integer number) = refl
names_split a (const.Truth truth) = refl
names_split a const.Null = refl
names_split a const.Undef = refl
names_split a const.Poison = refl
names_split a const.ZeroInitializer = refl
names_split a (const.ByteString bytes) = refl

at_front : {A : Type 0} (xs : List A) (k id : ℕ) (d : A) → id < k → get_or (take k xs) id d ≡ get_or xs id d
at_front xs zero id d lt = absurd (omega (arith, lt))
at_front [] (suc k) id d lt = refl
at_front (x ∷ xs) (suc k) zero d lt = refl
at_front (x ∷ xs) (suc k) (suc id) d lt = at_front xs k id d (omega (arith, lt))

module _ (cs : List Constant) (k types : ℕ) where
  abbrev Earlier : TypedConst → Type 0
  Earlier t = (t.ty < types) × (t.value < k)

  const_same : (id : ℕ) → id < k → in_const (take k cs) id ≡ in_const cs id
  const_same id lt = ap names_in_constant (at_front cs k id Constant.Null lt)

  typed_same : (es : List TypedConst) → AllByRecursion Earlier es → flat_map (λ t. in_const (take k cs) t.value) es ≡ flat_map (λ t. in_const cs t.value) es
  typed_same [] h = refl
  typed_same (e ∷ es) h = ap₂ (λ x y. x ++ y) (const_same e.value h.0.1) (typed_same es h.1)

  parts_same : (c : the_const.Const) → AllByRecursion Earlier (typed_in c) → in_parts (take k cs) c ≡ in_parts cs c
  parts_same (const.Aggregate round elements) h = typed_same elements h
  parts_same (const.ElementAddress flags address) h = typed_same address.operands h
  parts_same (const.Cast opcode operand to) h = const_same operand.value h.0.1
  parts_same (const.Binary opcode flags pair) h = ap₂ (λ x y. x ++ y) (const_same pair.left.value h.0.1) (const_same pair.right.value h.1.0.1)
  parts_same (const.Address g) h = refl
  parts_same (const.Integer number) h = refl
  parts_same (const.Truth truth) h = refl
  parts_same const.Null h = refl
  parts_same const.Undef h = refl
  parts_same const.Poison h = refl
  parts_same const.ZeroInitializer h = refl
  parts_same (const.ByteString bytes) h = refl

-- ---- one constant less

marked_split : (cs : List Constant) (marks : List Bool) (k : ℕ) → k < length cs → length cs ≤ length marks → (name : Bytes)
    → is_among (marked_names (take (suc k) cs) marks) name ≡ (is_among (marked_names (take k cs) marks) name || is_among (if slice_index_or marks k false then in_const cs k else []) name)
marked_split [] marks k lt le name = absurd (omega (arith, lt))
marked_split (c ∷ cs) [] k lt le name = absurd (omega (arith, le))
marked_split (c ∷ cs) (b ∷ bs) zero lt le name = list_any-append (bytes_eq name) (if b then names_in_constant c else []) (marked_names (take 0 cs) bs) ∙ ap (λ l. is_among (if b then names_in_constant c else []) name || is_among l name) (none cs bs) ∙ sym (or_nothing (is_among (if b then names_in_constant c else []) name))
  where
    none : (ds : List Constant) (ms : List Bool) → marked_names (take 0 ds) ms ≡ []
    none [] ms = refl
    none (d ∷ ds) ms = refl
marked_split (c ∷ cs) (b ∷ bs) (suc k) lt le name =
    list_any-append (bytes_eq name) here (marked_names (take (suc k) cs) bs)
    ∙ ap (λ x. is_among here name || x) (marked_split cs bs k (omega (arith, lt)) (omega (arith, le)) name)
    ∙ regroup (is_among here name) (is_among (marked_names (take k cs) bs) name) (is_among (if slice_index_or bs k false then in_const cs k else []) name)
    ∙ ap (λ x. x || is_among (if slice_index_or bs k false then in_const cs k else []) name) (sym (list_any-append (bytes_eq name) here (marked_names (take k cs) bs)))
  where
    here : List Bytes
    here = if b then names_in_constant c else []

    regroup : (x y z : Bool) → (x || (y || z)) ≡ ((x || y) || z)
    regroup true y z = refl
    regroup false y z = refl

taken : {A : Type 0} (xs : List A) (n : ℕ) → length (take n xs) ≤ length xs
taken xs zero = omega arith
taken [] (suc n) = omega arith
taken (x ∷ xs) (suc n) = let r = taken xs n in omega (arith, r)

-- what is still to be opened, with what is found
pub record Sweeping (a : Lists) (start : List Bytes) (first : List Bool) (next : ℕ) (names : List Bytes) (marks : List Bool) : Type 0 where
  pub sized : length marks ≡ length a.constants
  pub within : next ≤ length a.constants
  pub among : (name : Bytes) → (is_among names name || is_among (marked_names (take next (constants_of a)) marks) name) ≡ (is_among start name || is_among (marked_names (constants_of a) first) name)

pub sweeping_none : (a : Lists) (start : List Bytes) (first : List Bool) (next : ℕ) → length first ≡ length a.constants → next ≡ length first → Sweeping a start first next start first
sweeping_none a start first next sized end =
    let long = length-constants_of a in
    record {
      sized = sized;
      within = omega (arith, sized, end);
      among = λ name. ap (λ l. is_among start name || is_among (marked_names l first) name) (take_whole (constants_of a) next (omega (arith, long, sized, end)));
    }

module _ (a : Lists) (good : IsGood a) (start : List Bytes) (first : List Bool) where
  pub sweeping_more : (next k : ℕ) (names new_names : List Bytes) (marks new_marks : List Bool) → 0 < next → k ≡ next - 1
      → Adds names (if slice_index_or marks k false then own_names a (slice_index_or a.constants k const.Null) else []) new_names
      → MarksAll marks (λ ds. (if slice_index_or marks k false then in_parts ds (slice_index_or a.constants k const.Null) else [])) new_marks
      → Sweeping a start first next names marks → Sweeping a start first k new_names new_marks
  sweeping_more next k names new_names marks new_marks some is adds opened s =
      let smaller = front.sized in
      record {
        sized = smaller ∙ s.sized;
        within = omega (arith, s.within, is);
        among = λ name. ap₂ (λ x y. x || y) (adds.among name) (front.among name) ∙ joined name (slice_index_or marks k false) refl ∙ sym (ap (λ x. is_among names name || x) (next_is name)) ∙ s.among name;
      }
    where
      long : length (constants_of a) ≡ length a.constants
      long = length-constants_of a

      lt : k < length a.constants
      lt = let w = s.within in omega (arith, w, is, some)

      shorter : length (take k (constants_of a)) ≤ length marks
      shorter = let sized = s.sized in let few = taken (constants_of a) k in omega (arith, sized, few, long)

      front : Marks (take k (constants_of a)) marks (if slice_index_or marks k false then in_parts (take k (constants_of a)) (slice_index_or a.constants k const.Null) else []) new_marks
      front = opened (take k (constants_of a)) shorter

      constant : the_const.Const
      constant = slice_index_or a.constants k const.Null

      at : slice_get a.constants k ≡ Some constant
      at = slice_get-get_or a.constants k const.Null lt

      parts : in_parts (take k (constants_of a)) constant ≡ in_parts (constants_of a) constant
      parts = parts_same (constants_of a) k (length a.table.types) constant (recursion_from_All _ (typed_in constant) (const_known a good k constant at).typed_known)

      whole : in_const (constants_of a) k ≡ own_names a constant ++ in_parts (constants_of a) constant
      whole = ap names_in_constant (constant_here a good k constant at) ∙ names_split a constant

      next_is : (name : Bytes) → is_among (marked_names (take next (constants_of a)) marks) name ≡ (is_among (marked_names (take k (constants_of a)) marks) name || is_among (if slice_index_or marks k false then in_const (constants_of a) k else []) name)
      next_is name =
          let e : next ≡ suc k = omega (arith, is, some) in
          let sized = s.sized in
          ap (λ j. is_among (marked_names (take j (constants_of a)) marks) name) e ∙ marked_split (constants_of a) marks k (omega (arith, long, lt)) (omega (arith, long, sized)) name

      joined : (name : Bytes) (b : Bool) → slice_index_or marks k false ≡ b
          → ((is_among names name || is_among (if b then own_names a constant else []) name) || (is_among (marked_names (take k (constants_of a)) marks) name || is_among (if b then in_parts (take k (constants_of a)) constant else []) name))
          ≡ (is_among names name || (is_among (marked_names (take k (constants_of a)) marks) name || is_among (if b then in_const (constants_of a) k else []) name))
      joined name true e =
          ap (λ l. (is_among names name || is_among (own_names a constant) name) || (is_among (marked_names (take k (constants_of a)) marks) name || is_among l name)) parts
          ∙ shuffle (is_among names name) (is_among (own_names a constant) name) (is_among (marked_names (take k (constants_of a)) marks) name) (is_among (in_parts (constants_of a) constant) name)
          ∙ ap (λ x. is_among names name || (is_among (marked_names (take k (constants_of a)) marks) name || x)) (sym (list_any-append (bytes_eq name) (own_names a constant) (in_parts (constants_of a) constant)) ∙ ap (λ l. is_among l name) (sym whole))
        where
          shuffle : (n o m p : Bool) → ((n || o) || (m || p)) ≡ (n || (m || (o || p)))
          shuffle true o m p = refl
          shuffle false true true p = refl
          shuffle false true false p = refl
          shuffle false false m p = refl
      joined name false e = ap (λ x. x || (is_among (marked_names (take k (constants_of a)) marks) name || false)) (sym (or_nothing (is_among names name)))

  pub sweeping_done : (next : ℕ) (names : List Bytes) (marks : List Bool) → next ≡ 0 → Sweeping a start first next names marks → IsAmongEach names start (marked_names (constants_of a) first)
  sweeping_done next names marks end s name = or_nothing (is_among names name) ∙ ap (λ l. is_among names name || is_among l name) (sym (ap (λ k. marked_names (take k (constants_of a)) marks) end ∙ none (constants_of a))) ∙ s.among name
    where
      none : (ds : List Constant) → marked_names (take 0 ds) marks ≡ []
      none [] = refl
      none (d ∷ ds) = refl
