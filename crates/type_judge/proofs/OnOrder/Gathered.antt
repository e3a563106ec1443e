-- Structs gathered one by one.
use Rattle.std.specs.Prelude.{◌≡◌, refl, ℕ, zero, suc, ◌+◌, ◌<◌, ◌≤◌, Bool, true, false, cond, List, [], ◌∷◌, ◌++◌, length, map, bytes_eq, Option, Some, None}
use Rattle.std.proofs.Common.{ap, sym, ◌∙◌, arith, get_or, take, drop, append_assoc, length-append}
use Rattle.std.proofs.lemmas.List.{drop_more}
use Rattle.std.specs.List.{cons_option}
use Rattle.std.specs.Global.{Vec}
use Rattle.std.proofs.lemmas.List.Elements.{filter_map-append}
use Rattle.ir_phrases.specs.declared.constants.ty.Type as the_type
use Rattle.ir_phrases.specs.Constants.Tree.{types}
use Rattle.ir_phrases.specs.Constants.View.{type_view}
use Rattle.ir_syntax.specs.declared.item.Item.{Item}
use Rattle.ir_syntax.specs.Tree.{ItemTree}
use Rattle.ir_syntax.specs.View.{items_view, item_view}
use Rattle.type_table.specs.Tree.{TreeBody, Structs}
use Rattle.module_arena.specs.Module.{Bytes}
use Rattle.type_table.specs.Names.Entries.{value_of}
use Rattle.name_rules.specs.Measured.{names_in, all_names_in}
use Rattle.name_rules.specs.ModuleOf.{structs_in, struct_in}
use Rattle.name_rules.specs.Written.{type_in, types_in}
use Rattle.type_judge.specs.Order.Mentions.{number_from, AreNumbers, numbers_of, mentions_of, lists_from, first_number}
use Rattle.type_judge.specs.Order.Order.{mention_lists}

-- the structs of one item more
pub structs-append : (xs ys : List ItemTree) → structs_in (xs ++ ys) ≡ structs_in xs ++ structs_in ys
structs-append [] ys = refl
structs-append (x ∷ xs) ys = by (struct_in x) (structs-append xs ys)
  where
    by : (o : Option (Bytes × TreeBody)) → structs_in (xs ++ ys) ≡ structs_in xs ++ structs_in ys → cons_option o (structs_in (xs ++ ys)) ≡ cons_option o (structs_in xs) ++ structs_in ys
    by None e = e
    by (Some s) e = ap (λ more. s ∷ more) e

pub items_more : (items : List Item) (i : ℕ) (x : Item) → i < length items → x ≡ get_or items i x → items_view (take (i + 1) items) ≡ items_view (take i items) ++ item_view x ∷ []
items_more [] i x h e = absurd (omega (arith, h))
items_more (y ∷ items) zero x h e = ap (λ z. item_view z ∷ []) (sym e)
items_more (y ∷ items) (suc i) x h e = let more : suc i + 1 ≡ suc (i + 1) = omega arith in rw more (ap (λ rest. item_view y ∷ rest) (items_more items i x (omega (arith, h)) e))

pub structs_more : (items : List Item) (i : ℕ) (x : Item) → i < length items → x ≡ get_or items i x → structs_in (items_view (take (i + 1) items)) ≡ structs_in (items_view (take i items)) ++ structs_in (item_view x ∷ [])
structs_more items i x h e = ap structs_in (items_more items i x h e) ∙ structs-append (items_view (take i items)) (item_view x ∷ [])

-- the number of one struct more
pub number_more : (next : ℕ) (structs : Structs) (s : Bytes × TreeBody) (name : Bytes) → number_from next (structs ++ s ∷ []) name ≡ first_number (number_from next structs name) (cond (bytes_eq s.0 name) (Some (next + length structs)) None)
number_more next [] s name = ap (λ k. cond (bytes_eq s.0 name) (Some k) None) (no_more next)
  where
    no_more : (k : ℕ) → k ≡ k + 0
    no_more k = omega arith
number_more next (x ∷ structs) s name = by (bytes_eq x.0 name) (number_more (suc next) structs s name ∙ ap (λ k. first_number (number_from (suc next) structs name) (cond (bytes_eq s.0 name) (Some k) None)) (one_more next (length structs)))
  where
    one_more : (k m : ℕ) → suc k + m ≡ k + suc m
    one_more k m = omega arith

    by : (b : Bool) → number_from (suc next) (structs ++ s ∷ []) name ≡ first_number (number_from (suc next) structs name) (cond (bytes_eq s.0 name) (Some (next + suc (length structs))) None)
        → cond b (Some next) (number_from (suc next) (structs ++ s ∷ []) name) ≡ first_number (cond b (Some next) (number_from (suc next) structs name)) (cond (bytes_eq s.0 name) (Some (next + suc (length structs))) None)
    by true e = refl
    by false e = e

-- the names in the types from one on
abbrev pub names_behind : List the_type.Type → ℕ → List Bytes
names_behind tys i = all_names_in (types_in (types (map type_view (drop i tys))))

-- one type more
pub mentions_next : (table : List (Bytes × ℕ)) (tys : List the_type.Type) (i : ℕ) (ty : the_type.Type) (before after all : List ℕ) → i < length tys → ty ≡ get_or tys i ty
    → after ≡ before ++ numbers_of table (names_in (type_in (type_view ty))) → before ++ numbers_of table (names_behind tys i) ≡ all → after ++ numbers_of table (names_behind tys (i + 1)) ≡ all
mentions_next table tys i ty before after all h e found rest =
    let mine = names_in (type_in (type_view ty)) in
    let split : names_behind tys i ≡ mine ++ names_behind tys (i + 1) =
    ap (λ ts. all_names_in (types_in (types (map type_view ts)))) (drop_more tys i ty h)
    ∙ ap (λ t. names_in (type_in (type_view t)) ++ names_behind tys (i + 1)) (sym e)
    in
    ap (λ xs. xs ++ numbers_of table (names_behind tys (i + 1))) found
    ∙ append_assoc before (numbers_of table mine) (numbers_of table (names_behind tys (i + 1)))
    ∙ ap (λ xs. before ++ xs) (sym (filter_map-append (value_of table) mine (names_behind tys (i + 1))))
    ∙ ap (λ names. before ++ numbers_of table names) (sym split)
    ∙ rest

-- what more structs mention
pub lists-append : (table : List (Bytes × ℕ)) (next : ℕ) (xs ys : Structs) → lists_from table next (xs ++ ys) ≡ lists_from table next xs ++ lists_from table (next + length xs) ys
lists-append table next [] ys = ap (λ k. lists_from table k ys) (no_more next)
  where
    no_more : (k : ℕ) → k ≡ k + 0
    no_more k = omega arith
lists-append table next (x ∷ xs) ys = ap (λ more. mentions_of table next x ∷ more) (lists-append table (suc next) xs ys ∙ ap (λ k. lists_from table (suc next) xs ++ lists_from table k ys) (one_more next (length xs)))
  where
    one_more : (k m : ℕ) → suc k + m ≡ k + suc m
    one_more k m = omega arith

pub length-lists : (table : List (Bytes × ℕ)) (next : ℕ) (structs : Structs) → length (lists_from table next structs) ≡ length structs
length-lists table next [] = refl
length-lists table next (s ∷ structs) = ap suc (length-lists table (suc next) structs)

-- a number is below the count
pub number_below : (next : ℕ) (structs : Structs) (name : Bytes) (n : ℕ) → number_from next structs name ≡ Some n → n < next + length structs
number_below next [] name n e = absurd cc
number_below next (s ∷ structs) name n e = by (bytes_eq s.0 name) e (λ q. number_below (suc next) structs name n q)
  where
    by : (b : Bool) → cond b (Some next) (number_from (suc next) structs name) ≡ Some n → (number_from (suc next) structs name ≡ Some n → n < suc next + length structs) → n < next + suc (length structs)
    by true q again = let same : next ≡ n = cc in omega (arith, same)
    by false q again = let less = again q in omega (arith, less)

-- one struct more has the next number
pub numbers_more : (old new : List (Bytes × ℕ)) (structs : Structs) (s : Bytes × TreeBody) (count : ℕ) → count ≡ length structs → AreNumbers old structs
    → ((other : Bytes) → value_of new other ≡ first_number (value_of old other) (cond (bytes_eq s.0 other) (Some count) None)) → AreNumbers new (structs ++ s ∷ [])
numbers_more old new structs s count e are put = record {
  each = λ name. put name ∙ (λ j. first_number (are.each name j) (cond (bytes_eq s.0 name) (Some (e j)) None)) ∙ ap (λ k. first_number (number_from 0 structs name) (cond (bytes_eq s.0 name) (Some k) None)) (zero_more (length structs)) ∙ sym (number_more 0 structs s name);
}
  where
    zero_more : (k : ℕ) → k ≡ 0 + k
    zero_more k = omega arith

length-both : (xs ys : Structs) → length (xs ++ ys) ≡ length xs + length ys
length-both xs ys = length-append xs ys

-- the structs of a front are no more than those of all
pub fewer : (items : List Item) (i : ℕ) (x : Item) → i < length items → x ≡ get_or items i x → length (structs_in (items_view (take i items))) + length (structs_in (item_view x ∷ [])) ≤ length (structs_in (items_view items))
fewer items i x h e =
    let front = length-both (structs_in (items_view (take i items))) (structs_in (item_view x ∷ [])) in
    let more = ap length (structs_more items i x h e) in
    let whole = ap (λ (xs : List Item). length (structs_in (items_view xs))) (take_and_drop (i + 1) items) in
    let split = ap length (ap structs_in (views (take (i + 1) items) (drop (i + 1) items)) ∙ structs-append (items_view (take (i + 1) items)) (items_view (drop (i + 1) items))) in
    let parts = length-both (structs_in (items_view (take (i + 1) items))) (structs_in (items_view (drop (i + 1) items))) in
    omega (arith, front, more, whole, split, parts)
  where
    views : (xs ys : List Item) → items_view (xs ++ ys) ≡ items_view xs ++ items_view ys
    views [] ys = refl
    views (x ∷ xs) ys = ap (λ rest. item_view x ∷ rest) (views xs ys)

    take_and_drop : (k : ℕ) (xs : List Item) → take k xs ++ drop k xs ≡ xs
    take_and_drop zero xs = refl
    take_and_drop (suc k) [] = refl
    take_and_drop (suc k) (x ∷ xs) = ap (λ rest. x ∷ rest) (take_and_drop k xs)

pub mentions-append : (xs ys : List (Vec ℕ)) → mention_lists (xs ++ ys) ≡ mention_lists xs ++ mention_lists ys
mentions-append [] ys = refl
mentions-append (x ∷ xs) ys = ap (λ rest. x.items ∷ rest) (mentions-append xs ys)

-- what one more vector adds
pub vector_more : (old new : List (Vec ℕ)) (found : Vec ℕ) (list : List ℕ) → new ≡ old ++ found ∷ [] → found.items ≡ list → mention_lists new ≡ mention_lists old ++ list ∷ []
vector_more old new found list e q = ap mention_lists e ∙ mentions-append old (found ∷ []) ∙ ap (λ xs. mention_lists old ++ xs ∷ []) q
