-- What is chosen with all that it calls.
use Rattle.std.proofs.Common.{◌≡◌, ℕ, zero, suc, ◌+◌, ◌<◌, ◌≤◌, Bool, true, false, ◌&&◌, ◌||◌, ◌⊎◌, inl, inr, List, [], ◌∷◌, ◌++◌, map, filter_map, flat_map, length, Some, None, refl, sym, ap, ◌∙◌, subst, bytes_eq, is_some, slice_get, arith, if◌then◌else◌}
use Rattle.std.specs.List.{cons_option, list_any, AllByRecursion}
use Rattle.std.proofs.lemmas.Bool.{and_from, and_parts, or_left}
use Rattle.std.proofs.lemmas.Map.Keys.{any_passes_from_place}
use Rattle.module_arena.specs.Module.{Bytes, Function, Module}
use Rattle.extract_rules.specs.Closure.{TimesAreEnough}
use Rattle.extract_rules.specs.Selected.{is_among, defines_function, behind, callees_of, called_by, with_called, times}
use Rattle.extract_rules.proofs.Among.{name_self, name_exact, same_test, among_front, among_back, among_cases, any_gathered, any_follow, any_where}

-- ---- one step

-- the names of the functions with bodies that pass a test
abbrev named : (Bytes → Bool) → List Function → List Bytes
named test fs = filter_map (λ f. if is_some f.body && test f.name then Some f.name else None) fs

-- what the step asks of a name
abbrev reached : Module → List Bytes → Bytes → Bool
reached m names n = is_among (names ++ called_by m names) n

among_named : (test : Bytes → Bool) (fs : List Function) (n : Bytes) → is_among (named test fs) n ≡ (list_any (λ (f : Function). bytes_eq n f.name && is_some f.body) fs && test n)
among_named test [] n = refl
among_named test (f ∷ fs) n = step (is_some f.body) (test f.name) (among_named test fs n) ∙ here (bytes_eq n f.name) refl ∙ shared (bytes_eq n f.name && is_some f.body) _ (test n)
  where
    step : (b t : Bool) → is_among (named test fs) n ≡ (list_any (λ (f : Function). bytes_eq n f.name && is_some f.body) fs && test n)
        → is_among (cons_option (if b && t then Some f.name else None) (named test fs)) n ≡ (((bytes_eq n f.name && b) && t) || (list_any (λ (f : Function). bytes_eq n f.name && is_some f.body) fs && test n))
    step true true rest = ap (λ c. bytes_eq n f.name || c) rest ∙ ap (λ c. c || (list_any (λ (f : Function). bytes_eq n f.name && is_some f.body) fs && test n)) (twice (bytes_eq n f.name))
      where
        twice : (c : Bool) → c ≡ ((c && true) && true)
        twice true = refl
        twice false = refl
    step true false rest = rest ∙ ap (λ c. c || (list_any (λ (f : Function). bytes_eq n f.name && is_some f.body) fs && test n)) (none (bytes_eq n f.name && true))
      where
        none : (c : Bool) → false ≡ (c && false)
        none true = refl
        none false = refl
    step false t rest = rest ∙ ap (λ c. c || (list_any (λ (f : Function). bytes_eq n f.name && is_some f.body) fs && test n)) (none (bytes_eq n f.name))
      where
        none : (c : Bool) → false ≡ ((c && false) && t)
        none true = refl
        none false = refl

    here : (c : Bool) → bytes_eq n f.name ≡ c → (((c && is_some f.body) && test f.name) || (list_any (λ (f : Function). bytes_eq n f.name && is_some f.body) fs && test n)) ≡ (((c && is_some f.body) && test n) || (list_any (λ (f : Function). bytes_eq n f.name && is_some f.body) fs && test n))
    here true e = ap (λ z. (is_some f.body && test z) || (list_any (λ (f : Function). bytes_eq n f.name && is_some f.body) fs && test n)) (sym (name_exact n f.name e))
    here false e = refl

    shared : (a b t : Bool) → ((a && t) || (b && t)) ≡ ((a || b) && t)
    shared true true true = refl
    shared true true false = refl
    shared true false true = refl
    shared true false false = refl
    shared false b t = refl

-- a name after a step
pub among_with_called : (m : Module) (names : List Bytes) (n : Bytes) → is_among (with_called m names) n ≡ (defines_function m n && is_among (names ++ called_by m names) n)
among_with_called m names n = among_named (reached m names) m.functions n

-- what a name of some calls is what one of them calls
pub among_called : (m : Module) (names : List Bytes) (n : Bytes) → is_among (called_by m names) n ≡ true → (x : Bytes) × (is_among names x ≡ true) × (is_among (called_by m (x ∷ [])) n ≡ true)
among_called m names n h =
    let found = any_where (λ (f : Function). is_among (if is_among names f.name then map (behind m) (callees_of f) else []) n) m.functions (sym (any_gathered (bytes_eq n) (λ f. if is_among names f.name then map (behind m) (callees_of f) else []) m.functions) ∙ h) in
    let both = parts (is_among names found.0.name) (map (behind m) (callees_of found.0)) found.3 in
    (found.0.name, both.0, by_one found.0 found.1 found.2 both.1)
  where
    parts : (b : Bool) (xs : List Bytes) → is_among (if b then xs else []) n ≡ true → (b ≡ true) × (is_among xs n ≡ true)
    parts true xs e = (refl, e)
    parts false xs e = cc

    by_one : (f : Function) (k : ℕ) → slice_get m.functions k ≡ Some f → is_among (map (behind m) (callees_of f)) n ≡ true → is_among (called_by m (f.name ∷ [])) n ≡ true
    by_one f k at e =
        any_gathered (bytes_eq n) (λ g. if is_among (f.name ∷ []) g.name then map (behind m) (callees_of g) else []) m.functions
        ∙ any_passes_from_place (λ (g : Function). is_among (if is_among (f.name ∷ []) g.name then map (behind m) (callees_of g) else []) n) m.functions k f at
        (ap (λ b. is_among (if b then map (behind m) (callees_of f) else []) n) (or_left _ _ (name_self f.name)) ∙ e)

-- and the other way
pub called_among : (m : Module) (names : List Bytes) (x n : Bytes) → is_among names x ≡ true → is_among (called_by m (x ∷ [])) n ≡ true → is_among (called_by m names) n ≡ true
called_among m names x n among h =
    any_gathered (bytes_eq n) (λ f. if is_among names f.name then map (behind m) (callees_of f) else []) m.functions
    ∙ any_follow (λ (f : Function). is_among (if is_among (x ∷ []) f.name then map (behind m) (callees_of f) else []) n) (λ f. is_among (if is_among names f.name then map (behind m) (callees_of f) else []) n) m.functions each
    (sym (any_gathered (bytes_eq n) (λ f. if is_among (x ∷ []) f.name then map (behind m) (callees_of f) else []) m.functions) ∙ h)
  where
    each : (f : Function) → is_among (if is_among (x ∷ []) f.name then map (behind m) (callees_of f) else []) n ≡ true → is_among (if is_among names f.name then map (behind m) (callees_of f) else []) n ≡ true
    each f e = go (bytes_eq f.name x) refl e
      where
        go : (b : Bool) → bytes_eq f.name x ≡ b → is_among (if b || false then map (behind m) (callees_of f) else []) n ≡ true → is_among (if is_among names f.name then map (behind m) (callees_of f) else []) n ≡ true
        go true t e = ap (λ b. is_among (if b then map (behind m) (callees_of f) else []) n) (subst (λ z. is_among names z ≡ true) (sym (name_exact f.name x t)) among) ∙ e
        go false t e = cc

-- ---- as many steps as there are functions

pub times_last : (k : ℕ) (step : List Bytes → List Bytes) (names : List Bytes) → times (suc k) step names ≡ step (times k step names)
times_last zero step names = refl
times_last (suc k) step names = times_last k step (step names)

named_few : (test : Bytes → Bool) (fs : List Function) → length (named test fs) ≤ length fs
named_few test [] = omega arith
named_few test (f ∷ fs) = go (is_some f.body && test f.name) (named_few test fs)
  where
    go : (b : Bool) → length (named test fs) ≤ length fs → length (cons_option (if b then Some f.name else None) (named test fs)) ≤ suc (length fs)
    go true h = omega (arith, h)
    go false h = omega (arith, h)

-- a weaker test names the same functions or more
abbrev Follows : (Bytes → Bool) → (Bytes → Bool) → Function → Type 0
Follows p q f = (is_some f.body && p f.name) ≡ true → (is_some f.body && q f.name) ≡ true

more_or_same : (p q : Bytes → Bool) (fs : List Function) → AllByRecursion (Follows p q) fs → ((named p fs ≡ named q fs) ⊎ (length (named p fs) < length (named q fs))) × (length (named p fs) ≤ length (named q fs))
more_or_same p q [] a = (inl refl, omega arith)
more_or_same p q (f ∷ fs) a = let rest = more_or_same p q fs a.1 in go (is_some f.body && p f.name) (is_some f.body && q f.name) a.0 rest.0 rest.1
  where
    go : (b c : Bool) → (b ≡ true → c ≡ true) → (named p fs ≡ named q fs) ⊎ (length (named p fs) < length (named q fs)) → length (named p fs) ≤ length (named q fs)
        → ((cons_option (if b then Some f.name else None) (named p fs) ≡ cons_option (if c then Some f.name else None) (named q fs)) ⊎ (length (cons_option (if b then Some f.name else None) (named p fs)) < length (cons_option (if c then Some f.name else None) (named q fs))))
        × (length (cons_option (if b then Some f.name else None) (named p fs)) ≤ length (cons_option (if c then Some f.name else None) (named q fs)))
    go true true h (inl e) l = (inl (ap (λ xs. f.name ∷ xs) e), omega (arith, l))
    go true true h (inr e) l = (inr (omega (arith, e)), omega (arith, l))
    go true false h o l = let e = h refl in cc
    go false true h o l = (inr (omega (arith, l)), omega (arith, l))
    go false false h o l = (o, l)

-- each function that the step names is among what it names
each_named : (test : Bytes → Bool) (m : Module) → AllByRecursion (λ f. (is_some f.body && test f.name) ≡ true → is_among (named test m.functions) f.name ≡ true) m.functions
each_named test m = go m.functions 0 (λ k. let e : 0 + k ≡ k = omega arith in ap (slice_get m.functions) e)
  where
    go : (fs : List Function) (i : ℕ) → ((k : ℕ) → slice_get m.functions (i + k) ≡ slice_get fs k) → AllByRecursion (λ f. (is_some f.body && test f.name) ≡ true → is_among (named test m.functions) f.name ≡ true) fs
    go [] i at = tt
    go (f ∷ fs) i at = (
      (λ h. let both = and_parts (is_some f.body) _ h in
          among_named test m.functions f.name ∙ and_from _ _ (any_passes_from_place (λ (g : Function). bytes_eq f.name g.name && is_some g.body) m.functions (i + 0) f (at 0) (and_from _ _ (name_self f.name) both.0)) both.1),
      go fs (suc i) (λ k. let e : suc i + k ≡ i + suc k = omega arith in ap (slice_get m.functions) e ∙ at (suc k)),
    )

pub all_follow : {A : Type 0} (P Q : A → Type 0) (xs : List A) → ((x : A) → P x → Q x) → AllByRecursion P xs → AllByRecursion Q xs
all_follow P Q [] f a = tt
all_follow P Q (x ∷ xs) f a = (f x a.0, all_follow P Q xs f a.1)

module _ (m : Module) (names : List Bytes) where
  abbrev step : List Bytes → List Bytes
  step = with_called m

  -- after so many steps and one
  abbrev stage : ℕ → List Bytes
  stage k = times (suc k) step names

  next : (k : ℕ) → stage (suc k) ≡ step (stage k)
  next k = times_last (suc k) step names

  stage_of : (k : ℕ) → stage k ≡ named (reached m (times k step names)) m.functions
  stage_of k = times_last k step names

  grows : (k : ℕ) → ((stage k ≡ stage (suc k)) ⊎ (length (stage k) < length (stage (suc k))))
  grows k = subst (λ xs. (stage k ≡ xs) ⊎ (length (stage k) < length xs)) (sym (next k)) (subst (λ xs. (xs ≡ step xs) ⊎ (length xs < length (step xs))) (sym (stage_of k)) both.0)
    where
      old : List Bytes
      old = named (reached m (times k step names)) m.functions

      both : ((old ≡ step old) ⊎ (length old < length (step old))) × (length old ≤ length (step old))
      both =
          more_or_same (reached m (times k step names)) (reached m old) m.functions
          (all_follow (λ f. (is_some f.body && reached m (times k step names) f.name) ≡ true → is_among old f.name ≡ true) (Follows (reached m (times k step names)) (reached m old)) m.functions
          (λ f p h. and_from _ _ (and_parts (is_some f.body) _ h).0 (among_front old (called_by m old) f.name (p h)))
          (each_named (reached m (times k step names)) m))

  -- nothing is reached from nothing
  none_called : (fs : List Function) → flat_map (λ f. if is_among [] f.name then map (behind m) (callees_of f) else []) fs ≡ []
  none_called [] = refl
  none_called (f ∷ fs) = none_called fs

  none_named : (test : Bytes → Bool) (fs : List Function) → ((n : Bytes) → test n ≡ false) → named test fs ≡ []
  none_named test [] h = refl
  none_named test (f ∷ fs) h = ap (λ b. cons_option (if is_some f.body && b then Some f.name else None) (named test fs)) (h f.name) ∙ go (is_some f.body) ∙ none_named test fs h
    where
      go : (b : Bool) → cons_option (if b && false then Some f.name else None) (named test fs) ≡ named test fs
      go true = refl
      go false = refl

  step_none : step [] ≡ []
  step_none = none_named (reached m []) m.functions (λ n. ap (λ xs. is_among xs n) (none_called m.functions))

  -- each step but the last brings a function, or nothing is brought any more
  settled : (k : ℕ) → (stage k ≡ stage (suc k)) ⊎ (suc k < length (stage (suc k)))
  settled zero = first (stage 0) refl (grows 0)
    where
      first : (xs : List Bytes) → stage 0 ≡ xs → (stage 0 ≡ stage 1) ⊎ (length (stage 0) < length (stage 1)) → (stage 0 ≡ stage 1) ⊎ (1 < length (stage 1))
      first xs e (inl same) = inl same
      first [] e (inr more) = inl (e ∙ sym step_none ∙ ap step (sym e) ∙ sym (next 0))
      first (x ∷ xs) e (inr more) = let long = ap length e in inr (omega (arith, more, long))
  settled (suc k) = later (settled k) (grows (suc k))
    where
      later : (stage k ≡ stage (suc k)) ⊎ (suc k < length (stage (suc k))) → (stage (suc k) ≡ stage (suc (suc k))) ⊎ (length (stage (suc k)) < length (stage (suc (suc k))))
          → (stage (suc k) ≡ stage (suc (suc k))) ⊎ (suc (suc k) < length (stage (suc (suc k))))
      later o (inl same) = inl same
      later (inl same) (inr more) = inl (next k ∙ ap step same ∙ sym (next (suc k)))
      later (inr long) (inr more) = inr (omega (arith, long, more))

  enough : (k : ℕ) → length m.functions ≡ suc k → stage k ≡ stage (suc k)
  enough k e = go (settled k)
    where
      go : (stage k ≡ stage (suc k)) ⊎ (suc k < length (stage (suc k))) → stage k ≡ stage (suc k)
      go (inl same) = same
      go (inr long) =
          let few = named_few (reached m (times (suc k) step names)) m.functions in
          let is = ap length (stage_of (suc k)) in
          absurd (omega (arith, long, few, is, e))

pub times_are_enough : TimesAreEnough
times_are_enough m names some = go (length m.functions) refl some
  where
    go : (n : ℕ) → length m.functions ≡ n → 0 < n → with_called m (times n (with_called m) names) ≡ times n (with_called m) names
    go zero e h = absurd (omega (arith, h))
    go (suc k) e h = sym (times_last (suc k) (with_called m) names) ∙ sym (enough m names k e)

-- ---- a list of names that holds what is selected and what its names call

module _ (m : Module) (start : List Bytes) where
  -- all that is chosen
  abbrev pub Closure : List Bytes
  Closure = start ++ times (length m.functions) (with_called m) start

  -- a defined function that a chosen one calls is chosen
  pub closure_closed : (x n : Bytes) → is_among Closure x ≡ true → defines_function m n ≡ true → is_among (called_by m (x ∷ [])) n ≡ true → is_among Closure n ≡ true
  closure_closed x n among defined called = go (length m.functions) refl
    where
      all : List Bytes
      all = times (length m.functions) (with_called m) start

      stepped : (names : List Bytes) → is_among names x ≡ true → is_among (with_called m names) n ≡ true
      stepped names a = among_with_called m names n ∙ and_from _ _ defined (among_back names (called_by m names) n (called_among m names x n a called))

      -- what one step reaches, all steps reach
      first : (k : ℕ) (names : List Bytes) → is_among (with_called m names) n ≡ true → is_among (times (suc k) (with_called m) names) n ≡ true
      first zero names a = a
      first (suc k) names a = first k (with_called m names) (among_with_called m (with_called m names) n ∙ and_from _ _ defined (among_front (with_called m names) (called_by m (with_called m names)) n a))

      go : (count : ℕ) → length m.functions ≡ count → is_among Closure n ≡ true
      go zero e = absurd (none m.functions e called)
        where
          none : (fs : List Function) → length fs ≡ 0 → is_among (flat_map (λ f. if is_among (x ∷ []) f.name then map (behind m) (callees_of f) else []) fs) n ≡ true → ⊥
          none [] e h = cc
          none (f ∷ fs) e h = let z : suc (length fs) ≡ 0 = e in absurd (omega (arith, z))
      go (suc k) e = by (among_cases start all x among)
        where
          by : (is_among start x ≡ true) ⊎ (is_among all x ≡ true) → is_among Closure n ≡ true
          by (inl a) = among_back start all n (subst (λ c. is_among (times c (with_called m) start) n ≡ true) (sym e) (first k start (stepped start a)))
          by (inr a) = among_back start all n (subst (λ xs. is_among xs n ≡ true) (times_are_enough m start (omega (arith, e))) (stepped all a))

  -- and no less is chosen
  pub closure_least : (names : List Bytes) → ((n : Bytes) → is_among start n ≡ true → is_among names n ≡ true)
      → ((x n : Bytes) → is_among names x ≡ true → defines_function m n ≡ true → is_among (called_by m (x ∷ [])) n ≡ true → is_among names n ≡ true)
      → (n : Bytes) → is_among Closure n ≡ true → is_among names n ≡ true
  closure_least names holds closed n h = by (among_cases start (times (length m.functions) (with_called m) start) n h)
    where
      within : (k : ℕ) (from : List Bytes) → ((x : Bytes) → is_among from x ≡ true → is_among names x ≡ true) → (x : Bytes) → is_among (times k (with_called m) from) x ≡ true → is_among names x ≡ true
      within zero from f x a = f x a
      within (suc k) from f x a = within k (with_called m from) (λ y b. one y (and_parts (defines_function m y) _ (sym (among_with_called m from y) ∙ b))) x a
        where
          one : (y : Bytes) → (defines_function m y ≡ true) × (is_among (from ++ called_by m from) y ≡ true) → is_among names y ≡ true
          one y both = pick (among_cases from (called_by m from) y both.1)
            where
              pick : (is_among from y ≡ true) ⊎ (is_among (called_by m from) y ≡ true) → is_among names y ≡ true
              pick (inl a) = f y a
              pick (inr c) = let r = among_called m from y c in closed r.0 y (f r.0 r.1) both.0 r.2

      by : (is_among start n ≡ true) ⊎ (is_among (times (length m.functions) (with_called m) start) n ≡ true) → is_among names n ≡ true
      by (inl a) = holds n a
      by (inr a) = within (length m.functions) start holds n a

-- the same names call the same
pub same_closure : (m : Module) (xs ys : List Bytes) → ((n : Bytes) → is_among xs n ≡ is_among ys n) → (n : Bytes) → is_among (Closure m xs) n ≡ is_among (Closure m ys) n
same_closure m xs ys same n =
    same_test (is_among (Closure m xs) n) (is_among (Closure m ys) n)
    (closure_least m xs (Closure m ys) (λ k h. among_front ys _ k (sym (same k) ∙ h)) (closure_closed m ys) n)
    (closure_least m ys (Closure m xs) (λ k h. among_front xs _ k (same k ∙ h)) (closure_closed m xs) n)
