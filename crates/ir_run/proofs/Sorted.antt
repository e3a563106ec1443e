-- A list that is sorted by priority, ties in the order of the array, is the order in which constructors are called: there is one such list.
use Rattle.std.proofs.Common.{◌≡◌, ℕ, suc, ◌<◌, ◌≤◌, Bool, true, false, not, ◌&&◌, cond, List, [], ◌∷◌, length, map, filter, get_or, refl, sym, ap, ◌∙◌, arith}
use Rattle.std.specs.Prelude.{nat_eq, nat_le, nat_lt, if◌then◌else◌}
use Rattle.std.specs.List.{AllByRecursion}
use Rattle.std.specs.List.Sorted.{IsNonDecreasingBy, IsStableByKey, ties}
use Rattle.std.specs.Ordering.{is_lt, nat_cmp}
use Rattle.std.specs.declared.cmp.Ordering.TheVariants.{Less, Equal, Greater}
use Rattle.std.proofs.lemmas.Bool.{and_parts, cond-true, leb-true, leb-false, ltb-true, ltb-false, false≢true}
use Rattle.run_rules.specs.Plan as plans
use Rattle.run_rules.specs.Plan.{in_order, put_in_order}
use Rattle.ir_run.specs.Constructors.{constructor_seen}
use Rattle.ir_run.specs.declared.order.Constructor.{Constructor}

-- ---- two priorities tie

abbrev even : ℕ → ℕ → Bool
even k j = ties (λ x y. is_lt (nat_cmp x y)) k j

less_is : (j k : ℕ) → is_lt (nat_cmp j k) ≡ nat_lt j k
less_is j k = go (nat_lt j k) (nat_eq j k)
  where
    go : (p q : Bool) → is_lt (cond p Less (cond q Equal Greater)) ≡ p
    go true q = refl
    go false true = refl
    go false false = refl

even_is : (k j : ℕ) → even k j ≡ (not (nat_lt k j) && not (nat_lt j k))
even_is k j = λ i. not (less_is k j i) && not (less_is j k i)

never_less : (k : ℕ) → nat_lt k k ≡ false
never_less k = go (nat_lt k k) refl
  where
    go : (b : Bool) → nat_lt k k ≡ b → nat_lt k k ≡ false
    go true e = let less = ltb-true k k e in absurd (omega (arith, less))
    go false e = e

even_same : (k : ℕ) → even k k ≡ true
even_same k = even_is k k ∙ ap (λ (b : Bool). not b && not b) (never_less k)

not_is : (b : Bool) → not b ≡ true → b ≡ false
not_is true h = absurd (false≢true h)
not_is false h = refl

even_key : (k j : ℕ) → even k j ≡ true → k ≡ j
even_key k j h =
    let both = and_parts (not (nat_lt k j)) (not (nat_lt j k)) (sym (even_is k j) ∙ h) in
    let low = ltb-false k j (not_is (nat_lt k j) both.0) in
    let high = ltb-false j k (not_is (nat_lt j k) both.1) in
    omega (arith, low, high)

-- ---- those of a priority, and lists that rise

abbrev of_priority : ℕ → List plans.Constructor → List plans.Constructor
of_priority k cs = filter (λ c. even k c.0) cs

abbrev AreBehind : ℕ → List plans.Constructor → Type 0
AreBehind k cs = AllByRecursion (λ c. k ≤ c.0) cs

abbrev Rise : List plans.Constructor → Type 0
Rise [] = Unit {0}
Rise (c ∷ cs) = AreBehind c.0 cs × Rise cs

weaker : (j k : ℕ) (cs : List plans.Constructor) → j ≤ k → AreBehind k cs → AreBehind j cs
weaker j k [] le h = tt
weaker j k (c ∷ cs) le h = (let first = h.0 in omega (arith, le, first), weaker j k cs le h.1)

-- of a list behind it there is none with that priority
none_of : (k j : ℕ) (cs : List plans.Constructor) → k < j → AreBehind j cs → of_priority k cs ≡ []
none_of k j [] lt h = refl
none_of k j (c ∷ cs) lt h = go (even k c.0) refl (none_of k j cs lt h.1)
  where
    go : (b : Bool) → even k c.0 ≡ b → of_priority k cs ≡ [] → cond b (c ∷ of_priority k cs) (of_priority k cs) ≡ []
    go true e more = let same = even_key k c.0 e in let first = h.0 in absurd (omega (arith, same, first, lt))
    go false e more = more

-- ---- the order in which they are called rises, and ties keep theirs

put_behind : (k : ℕ) (x : plans.Constructor) (cs : List plans.Constructor) → k ≤ x.0 → AreBehind k cs → AreBehind k (put_in_order x cs)
put_behind k x [] le h = (le, tt)
put_behind k x (c ∷ cs) le h = go (nat_le x.0 c.0) (put_behind k x cs le h.1)
  where
    go : (b : Bool) → AreBehind k (put_in_order x cs) → AreBehind k (if b then x ∷ c ∷ cs else c ∷ put_in_order x cs)
    go true more = (le, (h.0, h.1))
    go false more = (h.0, more)

put_rises : (x : plans.Constructor) (cs : List plans.Constructor) → Rise cs → Rise (put_in_order x cs)
put_rises x [] h = (tt, tt)
put_rises x (c ∷ cs) h = go (nat_le x.0 c.0) refl (put_rises x cs h.1)
  where
    go : (b : Bool) → nat_le x.0 c.0 ≡ b → Rise (put_in_order x cs) → Rise (if b then x ∷ c ∷ cs else c ∷ put_in_order x cs)
    go true e more = let le = leb-true x.0 c.0 e in ((le, weaker x.0 c.0 cs le h.0), h)
    go false e more = let lt = leb-false x.0 c.0 e in (put_behind c.0 x cs (omega (arith, lt)) h.0, more)

order_rises : (xs : List plans.Constructor) → Rise (in_order xs)
order_rises [] = tt
order_rises (x ∷ xs) = put_rises x (in_order xs) (order_rises xs)

put_keeps : (k : ℕ) (x : plans.Constructor) (cs : List plans.Constructor) → of_priority k (put_in_order x cs) ≡ of_priority k (x ∷ cs)
put_keeps k x [] = refl
put_keeps k x (c ∷ cs) = go (nat_le x.0 c.0) refl (put_keeps k x cs)
  where
    both : (p q : Bool) → even k x.0 ≡ p → even k c.0 ≡ q → c.0 < x.0 → cond q (c ∷ cond p (x ∷ of_priority k cs) (of_priority k cs)) (cond p (x ∷ of_priority k cs) (of_priority k cs)) ≡ cond p (x ∷ cond q (c ∷ of_priority k cs) (of_priority k cs)) (cond q (c ∷ of_priority k cs) (of_priority k cs))
    both true true e f lt = let one = even_key k x.0 e in let two = even_key k c.0 f in absurd (omega (arith, one, two, lt))
    both true false e f lt = refl
    both false true e f lt = refl
    both false false e f lt = refl

    go : (b : Bool) → nat_le x.0 c.0 ≡ b → of_priority k (put_in_order x cs) ≡ of_priority k (x ∷ cs) → of_priority k (if b then x ∷ c ∷ cs else c ∷ put_in_order x cs) ≡ of_priority k (x ∷ c ∷ cs)
    go true e more = refl
    go false e more = ap (λ l. cond (even k c.0) (c ∷ l) l) more ∙ both (even k x.0) (even k c.0) refl refl (leb-false x.0 c.0 e)

order_keeps : (k : ℕ) (xs : List plans.Constructor) → of_priority k (in_order xs) ≡ of_priority k xs
order_keeps k [] = refl
order_keeps k (x ∷ xs) = put_keeps k x (in_order xs) ∙ ap (λ l. cond (even k x.0) (x ∷ l) l) (order_keeps k xs)

-- ---- there is one list that rises and has these of each priority

abbrev AreAlike : List plans.Constructor → List plans.Constructor → Type 0
AreAlike xs ys = (k : ℕ) → of_priority k xs ≡ of_priority k ys

first_of : (c : plans.Constructor) (cs : List plans.Constructor) → of_priority c.0 (c ∷ cs) ≡ c ∷ of_priority c.0 cs
first_of c cs = cond-true (even c.0 c.0) (c ∷ of_priority c.0 cs) (of_priority c.0 cs) (even_same c.0)

least : (c : plans.Constructor) (cs : List plans.Constructor) (d : plans.Constructor) (ds : List plans.Constructor) → Rise (d ∷ ds) → AreAlike (c ∷ cs) (d ∷ ds) → d.0 ≤ c.0
least c cs d ds h same = go (nat_le d.0 c.0) refl
  where
    go : (b : Bool) → nat_le d.0 c.0 ≡ b → d.0 ≤ c.0
    go true e = leb-true d.0 c.0 e
    go false e =
        let lt = leb-false d.0 c.0 e in
        let none : of_priority c.0 (d ∷ ds) ≡ [] = none_of c.0 d.0 (d ∷ ds) lt (omega arith, h.0) in
        let some : c ∷ of_priority c.0 cs ≡ [] = sym (first_of c cs) ∙ same c.0 ∙ none in
        cc

pub one_order : (xs ys : List plans.Constructor) → Rise xs → Rise ys → AreAlike xs ys → xs ≡ ys
one_order [] [] g h same = refl
one_order [] (d ∷ ds) g h same = let some : [] ≡ d ∷ of_priority d.0 ds = same d.0 ∙ first_of d ds in cc
one_order (c ∷ cs) [] g h same = let some : c ∷ of_priority c.0 cs ≡ [] = sym (first_of c cs) ∙ same c.0 in cc
one_order (c ∷ cs) (d ∷ ds) g h same = λ i. heads i ∷ one_order cs ds g.1 h.1 tails i
  where
    keys : c.0 ≡ d.0
    keys = let low = least c cs d ds h same in let high = least d ds c cs g (λ k. sym (same k)) in omega (arith, low, high)

    fronts : c ∷ of_priority c.0 cs ≡ d ∷ of_priority c.0 ds
    fronts = sym (first_of c cs) ∙ same c.0 ∙ cond-true (even c.0 d.0) (d ∷ of_priority c.0 ds) (of_priority c.0 ds) (ap (even c.0) (sym keys) ∙ even_same c.0)

    heads : c ≡ d
    heads = let both = fronts in cc

    tail : (k : ℕ) (p q : Bool) → p ≡ q → cond p (c ∷ of_priority k cs) (of_priority k cs) ≡ cond q (d ∷ of_priority k ds) (of_priority k ds) → of_priority k cs ≡ of_priority k ds
    tail k true true e f = cc
    tail k false false e f = f
    tail k true false e f = absurd (false≢true (sym e))
    tail k false true e f = absurd (false≢true e)

    tails : AreAlike cs ds
    tails k = tail k (even k c.0) (even k d.0) (ap (even k) keys) (same k)

-- ---- what a stable sort by priority leaves

behind_all : (k : ℕ) (cs : List Constructor) → ((j : ℕ) (d : Constructor) → j < length cs → k ≤ (get_or cs j d).priority) → AreBehind k (map constructor_seen cs)
behind_all k [] h = tt
behind_all k (c ∷ cs) h = (h 0 c (omega arith), behind_all k cs (λ j d lt. h (suc j) d (omega (arith, lt))))

sorted_rises : (cs : List Constructor) → IsNonDecreasingBy (λ (c : Constructor). c.priority) cs → Rise (map constructor_seen cs)
sorted_rises [] h = tt
sorted_rises (c ∷ cs) h = (behind_all c.priority cs (λ j d lt. h 0 (suc j) d (omega arith) (omega (arith, lt))), sorted_rises cs (λ i j d le lt. h (suc i) (suc j) d (omega (arith, le)) (omega (arith, lt))))

of_priority_seen : (k : ℕ) (cs : List Constructor) → of_priority k (map constructor_seen cs) ≡ map constructor_seen (filter (λ (c : Constructor). even k c.priority) cs)
of_priority_seen k [] = refl
of_priority_seen k (c ∷ cs) = go (even k c.priority) (of_priority_seen k cs)
  where
    rest : List Constructor
    rest = filter (λ (c : Constructor). even k c.priority) cs

    go : (b : Bool) → of_priority k (map constructor_seen cs) ≡ map constructor_seen rest → cond b (constructor_seen c ∷ of_priority k (map constructor_seen cs)) (of_priority k (map constructor_seen cs)) ≡ map constructor_seen (cond b (c ∷ rest) rest)
    go true e = ap (λ l. constructor_seen c ∷ l) e
    go false e = e

pub sorted_so : (xs ys : List Constructor) → IsNonDecreasingBy (λ (c : Constructor). c.priority) ys → IsStableByKey (λ (c : Constructor). c.priority) nat_cmp xs ys → map constructor_seen ys ≡ in_order (map constructor_seen xs)
sorted_so xs ys rises stable =
    one_order (map constructor_seen ys) (in_order (map constructor_seen xs)) (sorted_rises ys rises) (order_rises (map constructor_seen xs))
    (λ k. of_priority_seen k ys ∙ ap (map constructor_seen) (stable (record { priority = k; address = 0 })) ∙ sym (of_priority_seen k xs) ∙ sym (order_keeps k (map constructor_seen xs)))
