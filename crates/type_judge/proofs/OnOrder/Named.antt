-- An order of numbers as an order of structs by their names.
use Rattle.std.specs.Prelude.{◌≡◌, refl, ◌⊎◌, ℕ, zero, suc, ◌+◌, ◌<◌, ◌≤◌, Bool, true, false, cond, ◌||◌, List, [], ◌∷◌, length, map, bytes_eq, nat_eq, Option, Some, None, All}
use Rattle.std.specs.List.{AllByRecursion, cons_option}
use Rattle.std.proofs.Common.{ap, sym, subst, ◌∙◌, arith, get_or, inl, inr}
use Rattle.std.proofs.lemmas.Bool.{eqb-true, eq-eqb, false_from_ne_true}
use Rattle.std.proofs.lemmas.Slice.Eq.{bytes_eq-Decides}
use Rattle.std.proofs.lemmas.List.{length-map}
use Rattle.std.proofs.lemmas.List.Elements.{All-from_recursion}
use Rattle.std.specs.Global.{Vec}
use Rattle.type_table.specs.Tree.{TreeBody, opaque_body, Structs, index_of, body_of}
use Rattle.type_table.proofs.UnderIds.{get_or-map}
use Rattle.module_arena.specs.Module.{Bytes}
use Rattle.type_table.specs.Names.Entries.{value_of}
use Rattle.name_rules.specs.Measured.{names_of, body_names}
use Rattle.type_judge.specs.Order.Order.{mentioned, HasNumber, stands_in, StandBehind, IsOrder, mention_lists, AreWithin}
use Rattle.type_judge.specs.Order.Dependency.{HasName, NamesOther, name_at, names_at, Follow, IsDependencyOrder}
use Rattle.type_judge.specs.Order.Mentions.{number_from, AreNumbers, numbers_of, is_number, mentions_of, lists_from}
use Rattle.type_judge.proofs.OnOrder.Gathered.{length-lists}

abbrev pub nothing : Bytes × TreeBody
nothing = ([], opaque_body)

-- a number that is found is that of the first struct with the name
pub found_at : (next : ℕ) (structs : Structs) (name : Bytes) (n : ℕ) → number_from next structs name ≡ Some n → (i : ℕ) × (n ≡ next + i) × (i < length structs) × (index_of (names_of structs) name ≡ i) × (name_at structs i ≡ name)
found_at next [] name n e = absurd cc
found_at next (s ∷ structs) name n e = by (bytes_eq s.0 name) refl e (λ q. found_at (suc next) structs name n q)
  where
    by : (b : Bool) → bytes_eq s.0 name ≡ b → cond b (Some next) (number_from (suc next) structs name) ≡ Some n
        → (number_from (suc next) structs name ≡ Some n → (i : ℕ) × (n ≡ suc next + i) × (i < length structs) × (index_of (names_of structs) name ≡ i) × (name_at structs i ≡ name))
        → (i : ℕ) × (n ≡ next + i) × (i < suc (length structs)) × (cond b 0 (suc (index_of (names_of structs) name)) ≡ i) × (get_or (s.0 ∷ names_of structs) i [] ≡ name)
    by true same q again = let here : next ≡ n = cc in (0, omega (arith, here), omega arith, refl, (bytes_eq-Decides s.0 name).0 same)
    by false other q again = let r = again q in (suc r.0, omega (arith, r.1), omega (arith, r.2), ap suc r.3, r.4)

-- a struct's name has a number
pub none_found : (next : ℕ) (structs : Structs) (name : Bytes) → number_from next structs name ≡ None → HasName name (names_of structs) → ⊥
none_found next [] name e h = h
none_found next (s ∷ structs) name e h = by (bytes_eq s.0 name) refl e h (λ q k. none_found (suc next) structs name q k)
  where
    by : (b : Bool) → bytes_eq s.0 name ≡ b → cond b (Some next) (number_from (suc next) structs name) ≡ None → (name ≡ s.0) ⊎ HasName name (names_of structs)
        → (number_from (suc next) structs name ≡ None → HasName name (names_of structs) → ⊥) → ⊥
    by true same q k again = absurd cc
    by false other q (inl k) again = let same = (bytes_eq-Decides s.0 name).1 (sym k) in absurd cc
    by false other q (inr k) again = again q k

some_found : (next : ℕ) (structs : Structs) (name : Bytes) → HasName name (names_of structs) → (n : ℕ) × (number_from next structs name ≡ Some n)
some_found next structs name h = by (number_from next structs name) refl
  where
    by : (o : Option ℕ) → number_from next structs name ≡ o → (n : ℕ) × (number_from next structs name ≡ Some n)
    by (Some n) e = (n, e)
    by None e = absurd (none_found next structs name e h)

pub has_at : (names : List Bytes) (i : ℕ) → i < length names → HasName (get_or names i []) names
has_at [] i h = absurd (omega (arith, h))
has_at (first ∷ names) zero h = inl refl
has_at (first ∷ names) (suc i) h = inr (has_at names i (omega (arith, h)))

-- what is mentioned has a name that is written
pub written : (table : List (Bytes × ℕ)) (names : List Bytes) (n : ℕ) → HasNumber n (numbers_of table names) → (other : Bytes) × HasName other names × (value_of table other ≡ Some n)
written table [] n h = absurd h
written table (first ∷ names) n h = by (value_of table first) refl h (λ k. written table names n k)
  where
    later : ((other : Bytes) × HasName other names × (value_of table other ≡ Some n)) → (other : Bytes) × HasName other (first ∷ names) × (value_of table other ≡ Some n)
    later r = (r.0, inr r.1, r.2)

    by : (o : Option ℕ) → value_of table first ≡ o → HasNumber n (cons_option o (numbers_of table names))
        → (HasNumber n (numbers_of table names) → (other : Bytes) × HasName other names × (value_of table other ≡ Some n)) → (other : Bytes) × HasName other (first ∷ names) × (value_of table other ≡ Some n)
    by None e k again = later (again k)
    by (Some b) e (inl q) again = (first, inl refl, e ∙ ap Some (sym q))
    by (Some b) e (inr k) again = later (again k)

pub is_mentioned : (table : List (Bytes × ℕ)) (names : List Bytes) (other : Bytes) (n : ℕ) → HasName other names → value_of table other ≡ Some n → HasNumber n (numbers_of table names)
is_mentioned table [] other n h e = absurd h
is_mentioned table (first ∷ names) other n h e = by (value_of table first) refl h (λ k. is_mentioned table names other n k e)
  where
    by : (o : Option ℕ) → value_of table first ≡ o → (other ≡ first) ⊎ HasName other names → (HasName other names → HasNumber n (numbers_of table names))
        → HasNumber n (cons_option o (numbers_of table names))
    by None q (inl k) again = let here = sym e ∙ ap (value_of table) k ∙ q in absurd cc
    by None q (inr k) again = again k
    by (Some b) q (inl k) again = let here : Some n ≡ Some b = sym e ∙ ap (value_of table) k ∙ q in inl cc
    by (Some b) q (inr k) again = inr (again k)

-- what the struct with a number mentions
mentioned_by : (table : List (Bytes × ℕ)) (next : ℕ) (structs : Structs) (i : ℕ) → i < length structs → mentioned (lists_from table next structs) i ≡ mentions_of table (next + i) (get_or structs i nothing)
mentioned_by table next [] i h = absurd (omega (arith, h))
mentioned_by table next (s ∷ structs) zero h = ap (λ k. mentions_of table k s) (no_more next)
  where
    no_more : (k : ℕ) → k ≡ k + 0
    no_more k = omega arith
mentioned_by table next (s ∷ structs) (suc i) h = mentioned_by table (suc next) structs i (omega (arith, h)) ∙ ap (λ k. mentions_of table k (get_or structs i nothing)) (one_more next i)
  where
    one_more : (k m : ℕ) → suc k + m ≡ k + suc m
    one_more k m = omega arith

-- no number stands in the order that mentions itself
no_self : (lists : List (List ℕ)) (before order : List ℕ) (number : ℕ) → StandBehind lists before order → stands_in before number ≡ false → stands_in order number ≡ true → HasNumber number (mentioned lists number) → ⊥
no_self lists before [] number behind out here h = absurd cc
no_self lists before (first ∷ order) number behind out here h = by (nat_eq number first) refl here (λ k q. no_self lists (first ∷ before) order number behind.1 k q h)
  where
    by : (b : Bool) → nat_eq number first ≡ b → (b || stands_in order number) ≡ true → (stands_in (first ∷ before) number ≡ false → stands_in order number ≡ true → ⊥) → ⊥
    by true e q again =
        let same = eqb-true number first e in
        let there = subst (λ n. (other : ℕ) → HasNumber other (mentioned lists n) → stands_in before other ≡ true) (sym same) behind.0 number h in
        absurd cc
    by false e q again = again (ap (λ b. b || stands_in before number) e ∙ out) q

pub in_names : (structs : Structs) (order : List ℕ) (t : ℕ) → stands_in order t ≡ true → HasName (name_at structs t) (names_at structs order)
in_names structs [] t e = absurd cc
in_names structs (first ∷ order) t e = by (nat_eq t first) refl e (λ q. in_names structs order t q)
  where
    by : (b : Bool) → nat_eq t first ≡ b → (b || stands_in order t) ≡ true → (stands_in order t ≡ true → HasName (name_at structs t) (names_at structs order)) → HasName (name_at structs t) (names_at structs (first ∷ order))
    by true q k again = inl (ap (name_at structs) (eqb-true t first q))
    by false q k again = inr (again k)

pub from_names : (structs : Structs) (order : List ℕ) (name : Bytes) → HasName name (names_at structs order) → (t : ℕ) × (stands_in order t ≡ true) × (name_at structs t ≡ name)
from_names structs [] name h = absurd h
from_names structs (first ∷ order) name (inl e) = (first, ap (λ b. b || stands_in order first) (eq-eqb first first refl), sym e)
from_names structs (first ∷ order) name (inr h) = let r = from_names structs order name h in (r.0, or_true (nat_eq r.0 first) (stands_in order r.0) r.1, r.2)
  where
    or_true : (a b : Bool) → b ≡ true → (a || b) ≡ true
    or_true true b e = refl
    or_true false b e = e

is_that : (o : Option ℕ) (n : ℕ) → is_number o n ≡ true → o ≡ Some n
is_that (Some m) n e = ap Some (eqb-true m n e)
is_that None n e = absurd cc

module _ (structs : Structs) (table : List (Bytes × ℕ)) (are : AreNumbers table structs) where
  -- the struct with a number is the first with its name
  abbrev pub IsFirst : ℕ → Type 0
  IsFirst number = value_of table (get_or structs number nothing).0 ≡ Some number

  pub name_there : (number : ℕ) → name_at structs number ≡ (get_or structs number nothing).0
  name_there number = get_or-map (λ (s : Bytes × TreeBody). s.0) structs number nothing

  pub found_number : (name : Bytes) (n : ℕ) → value_of table name ≡ Some n → (n < length structs) × (index_of (names_of structs) name ≡ n) × (name_at structs n ≡ name)
  found_number name n e =
      let r = found_at 0 structs name n (sym (are.each name) ∙ e) in
      let same : r.0 ≡ n = omega (arith, r.1) in
      (subst (λ k. k < length structs) same r.2, r.3 ∙ same, ap (name_at structs) (sym same) ∙ r.4)

  first_number : (number : ℕ) → IsFirst number → index_of (names_of structs) (name_at structs number) ≡ number
  first_number number is = ap (index_of (names_of structs)) (name_there number) ∙ (found_number (get_or structs number nothing).0 number is).1

  -- its body is the one that counts
  pub own_body : (number : ℕ) → IsFirst number → body_of structs (name_at structs number) ≡ (get_or structs number nothing).1
  own_body number is =
      ap (λ i. get_or (map (λ (s : Bytes × TreeBody). s.1) structs) i opaque_body) (first_number number is)
      ∙ get_or-map (λ (s : Bytes × TreeBody). s.1) structs number nothing

  pub own_mentions : (number : ℕ) → number < length structs → IsFirst number → mentioned (lists_from table 0 structs) number ≡ numbers_of table (body_names (get_or structs number nothing).1)
  own_mentions number within is =
      let s = get_or structs number nothing in
      mentioned_by table 0 structs number within
      ∙ ap (λ k. mentions_of table k s) (zero_more number)
      ∙ ap (λ b. cond b (numbers_of table (body_names s.1)) (number ∷ [])) (ap (λ o. is_number o number) is ∙ eq-eqb number number refl)
    where
      zero_more : (k : ℕ) → 0 + k ≡ k
      zero_more k = omega arith

  stands_first : (order : List ℕ) (number : ℕ) → StandBehind (lists_from table 0 structs) [] order → number < length structs → stands_in order number ≡ true → IsFirst number
  stands_first order number behind within here = by (is_number (value_of table s.0) number) refl
    where
      s : Bytes × TreeBody
      s = get_or structs number nothing

      by : (b : Bool) → is_number (value_of table (get_or structs number nothing).0) number ≡ b → IsFirst number
      by true e = is_that (value_of table (get_or structs number nothing).0) number e
      by false e =
          let own : mentioned (lists_from table 0 structs) number ≡ number ∷ [] =
          mentioned_by table 0 structs number within
          ∙ ap (λ k. mentions_of table k (get_or structs number nothing)) (zero_more number)
          ∙ ap (λ b. cond b (numbers_of table (body_names (get_or structs number nothing).1)) (number ∷ [])) e
          in
          absurd (no_self (lists_from table 0 structs) [] order number behind refl here (subst (λ ns. HasNumber number ns) (sym own) (inl refl)))
        where
          zero_more : (k : ℕ) → 0 + k ≡ k
          zero_more k = omega arith

  -- a name in the body of such a struct that is one of a struct is mentioned
  names_mentioned : (number : ℕ) (other : Bytes) (t : ℕ) → number < length structs → IsFirst number → NamesOther structs (name_at structs number) other → value_of table other ≡ Some t → HasNumber t (mentioned (lists_from table 0 structs) number)
  names_mentioned number other t within is h e =
      subst (λ ns. HasNumber t ns) (sym (own_mentions number within is))
      (is_mentioned table (body_names (get_or structs number nothing).1) other t (subst (λ body. HasName other (body_names body)) (own_body number is) h) e)

  follow_from : (before order : List ℕ) → StandBehind (lists_from table 0 structs) before order → ((number : ℕ) → stands_in order number ≡ true → (number < length structs) × IsFirst number) → Follow structs (names_at structs before) (names_at structs order)
  follow_from before [] behind firsts = tt
  follow_from before (number ∷ order) behind firsts =
      ((λ other h. by other h (value_of table other) refl), follow_from (number ∷ before) order behind.1 (λ n here. firsts n (or_true (nat_eq n number) (stands_in order n) here)))
    where
      or_true : (a b : Bool) → b ≡ true → (a || b) ≡ true
      or_true true b e = refl
      or_true false b e = e

      own : (number < length structs) × IsFirst number
      own = firsts number (ap (λ b. b || stands_in order number) (eq-eqb number number refl))

      by : (other : Bytes) → NamesOther structs (name_at structs number) other → (o : Option ℕ) → value_of table other ≡ o → HasName other (names_at structs before) ⊎ (HasName other (names_of structs) → ⊥)
      by other h (Some t) e =
          let there = behind.0 t (names_mentioned number other t own.0 own.1 h e) in
          inl (subst (λ name. HasName name (names_at structs before)) (found_number other t e).2 (in_names structs before t there))
      by other h None e = inr (none_found 0 structs other (sym (are.each other) ∙ e))

  -- an order of the numbers by what they mention is one of the structs by the names in their fields
  pub is_dependency_order : (order : List ℕ) → IsOrder (lists_from table 0 structs) order → IsDependencyOrder structs order
  is_dependency_order order is = record {
    within = within;
    first = λ number here. first_number number (firsts number here);
    distinct = is.distinct;
    follow = follow_from [] order is.behind (λ number here. (within number here, firsts number here));
    left = left;
  }
    where
      count : length (lists_from table 0 structs) ≡ length structs
      count = length-lists table 0 structs

      within : (number : ℕ) → stands_in order number ≡ true → number < length structs
      within number here = let less = is.within number here in omega (arith, less, count)

      firsts : (number : ℕ) → stands_in order number ≡ true → IsFirst number
      firsts number here = stands_first order number is.behind (within number here) here

      left : (name : Bytes) → HasName name (names_of structs) → (HasName name (names_at structs order) → ⊥)
          → (other : Bytes) × NamesOther structs name other × HasName other (names_of structs) × (HasName other (names_at structs order) → ⊥)
      left name h out = by (some_found 0 structs name h)
        where
          by : ((n : ℕ) × (number_from 0 structs name ≡ Some n)) → (other : Bytes) × NamesOther structs name other × HasName other (names_of structs) × (HasName other (names_at structs order) → ⊥)
          by (n, e) =
              let own : value_of table name ≡ Some n = are.each name ∙ e in
              let at = found_number name n own in
              let is_first : IsFirst n = ap (value_of table) (sym (name_there n) ∙ at.2) ∙ own in
              let not_in : stands_in order n ≡ false = false_from_ne_true (stands_in order n) (λ q. out (subst (λ k. HasName k (names_at structs order)) at.2 (in_names structs order n q))) in
              let lack = is.left n (omega (arith, at.0, count)) not_in in
              let from = written table (body_names (get_or structs n nothing).1) lack.0 (subst (λ ns. HasNumber lack.0 ns) (own_mentions n at.0 is_first) lack.1) in
              let there = found_number from.0 lack.0 from.2 in (
                from.0,
                subst (λ k. NamesOther structs k from.0) at.2 (subst (λ body. HasName from.0 (body_names body)) (sym (own_body n is_first)) from.1),
                subst (λ k. HasName k (names_of structs)) there.2 (has_at (names_of structs) lack.0 (omega (arith, there.0, length-map structs (λ (s : Bytes × TreeBody). s.0)))),
                λ k.
                    (let r = from_names structs order from.0 k in
                    let f = first_number r.0 (firsts r.0 r.1) in
                    let same : r.0 ≡ lack.0 = sym f ∙ ap (index_of (names_of structs)) r.2 ∙ there.1 in
                    let here : stands_in order lack.0 ≡ true = ap (stands_in order) (sym same) ∙ r.1 in
                    let out : stands_in order lack.0 ≡ false = lack.2 in
                    absurd cc),
              )

  -- each mention is below the count
  numbers_within : (names : List Bytes) (n : ℕ) → length structs ≡ n → AllByRecursion (λ k. k < n) (numbers_of table names)
  numbers_within [] n e = tt
  numbers_within (name ∷ names) n e = by (value_of table name) refl (numbers_within names n e)
    where
      by : (o : Option ℕ) → value_of table name ≡ o → AllByRecursion (λ k. k < n) (numbers_of table names) → AllByRecursion (λ k. k < n) (cons_option o (numbers_of table names))
      by None q all = all
      by (Some b) q all = (let less = (found_number name b q).0 in omega (arith, less, e), all)

  lists_within : (next : ℕ) (some : Structs) (n : ℕ) → length structs ≡ n → next + length some ≤ n → AllByRecursion (λ list. AllByRecursion (λ k. k < n) list) (lists_from table next some)
  lists_within next [] n e few = tt
  lists_within next (s ∷ some) n e few = (by (is_number (value_of table s.0) next), lists_within (suc next) some n e (omega (arith, few)))
    where
      by : (b : Bool) → AllByRecursion (λ k. k < n) (cond b (numbers_of table (body_names s.1)) (next ∷ []))
      by true = numbers_within (body_names s.1) n e
      by false = (omega (arith, few), tt)

-- the lists as vectors
vectors_within : (all : List (Vec ℕ)) (n : ℕ) → AllByRecursion (λ list. AllByRecursion (λ k. k < n) list) (mention_lists all) → AllByRecursion (λ (v : Vec ℕ). All (λ k. k < n) v.items) all
vectors_within [] n h = tt
vectors_within (v ∷ all) n h = (All-from_recursion (λ k. k < n) v.items h.0, vectors_within all n h.1)

pub are_within : (structs : Structs) (table : List (Bytes × ℕ)) (all : List (Vec ℕ)) → AreNumbers table structs → mention_lists all ≡ lists_from table 0 structs → AreWithin all
are_within structs table all are e =
    let count : length structs ≡ length all = sym (length-lists table 0 structs) ∙ ap length (sym e) ∙ length-map all (λ (v : Vec ℕ). v.items) in
    All-from_recursion (λ (v : Vec ℕ). All (λ k. k < length all) v.items) all
    (vectors_within all (length all) (subst (λ lists. AllByRecursion (λ list. AllByRecursion (λ k. k < length all) list) lists) (sym e) (lists_within structs table are 0 structs (length all) count (omega (arith, count)))))
