-- A list of names to which is added what its names call, from front to back.
use Rattle.std.proofs.Common.{◌≡◌, ℕ, zero, suc, ◌+◌, ◌<◌, ◌≤◌, true, ◌&&◌, ◌⊎◌, inl, inr, List, [], ◌∷◌, ◌++◌, length, Some, refl, sym, ap, ◌∙◌, subst, bytes_eq, slice_get, arith}
use Rattle.std.proofs.lemmas.Bool.{and_from, and_parts, or_left, or_right, or_cases}
use Rattle.std.proofs.lemmas.Option.{same_Some, slice_get_within}
use Rattle.std.proofs.lemmas.Map.Keys.{any_passes_from_place}
use Rattle.module_arena.specs.Module.{Bytes, Module}
use Rattle.extract_rules.specs.Calls.{Adds, AreNames, with_all_called}
use Rattle.extract_rules.specs.Selected.{is_among, defines_function, called_by}
use Rattle.extract_rules.proofs.Among.{same_test, among_front, any_where, name_self, name_exact}
use Rattle.extract_rules.proofs.Closure.{closure_closed, closure_least}

-- a defined function that the functions of a name call
abbrev pub Calls : Module → Bytes → Bytes → Type 0
Calls m x n = (defines_function m n ≡ true) × (is_among (called_by m (x ∷ [])) n ≡ true)

-- what the first names call is there
pub record Reaching (m : Module) (start : List Bytes) (done : ℕ) (names : List Bytes) : Type 0 where
  pub holds : (n : Bytes) → is_among start n ≡ true → is_among names n ≡ true
  pub within : (n : Bytes) → is_among names n ≡ true → is_among (with_all_called m start) n ≡ true
  pub closed : (k : ℕ) (x n : Bytes) → k < done → slice_get names k ≡ Some x → Calls m x n → is_among names n ≡ true

pub reaching_none : (m : Module) (start : List Bytes) → Reaching m start 0 start
reaching_none m start = record {
  holds = λ n h. h;
  within = λ n h. among_front start _ n h;
  closed = λ k x n lt. absurd (omega (arith, lt));
}

front_stays : {A : Type 0} (xs ys : List A) (k : ℕ) → k < length xs → slice_get (xs ++ ys) k ≡ slice_get xs k
front_stays [] ys k lt = absurd (omega (arith, lt))
front_stays (x ∷ xs) ys zero lt = refl
front_stays (x ∷ xs) ys (suc k) lt = front_stays xs ys k (omega (arith, lt))

module _ (m : Module) (start : List Bytes) where
  -- one more name is done
  pub reaching_more : (k : ℕ) (x : Bytes) (old more new : List Bytes) → slice_get old k ≡ Some x → Adds old more new
      → ((n : Bytes) → is_among more n ≡ true → Calls m x n) → ((n : Bytes) → Calls m x n → is_among more n ≡ true)
      → Reaching m start k old → Reaching m start (k + 1) new
  reaching_more k x old more new at adds called all r = record {
    holds = λ n h. stays n (r.holds n h);
    within = λ n h. by n (or_cases (is_among old n) (is_among more n) (sym (adds.among n) ∙ h));
    closed = λ j y n lt there calls. done j y n lt there calls;
  }
    where
      stays : (n : Bytes) → is_among old n ≡ true → is_among new n ≡ true
      stays n h = adds.among n ∙ or_left _ _ h

      here : is_among old x ≡ true
      here = any_passes_from_place (bytes_eq x) old k x at (name_self x)

      by : (n : Bytes) → (is_among old n ≡ true) ⊎ (is_among more n ≡ true) → is_among (with_all_called m start) n ≡ true
      by n (inl h) = r.within n h
      by n (inr h) = let c = called n h in closure_closed m start x n (r.within x here) c.0 c.1

      where_is : (j : ℕ) → j < length old → slice_get new j ≡ slice_get old j
      where_is j lt = ap (λ l. slice_get l j) adds.grows.1 ∙ front_stays old adds.grows.0 j lt

      within_old : k < length old
      within_old = slice_get_within old k x at

      done : (j : ℕ) (y n : Bytes) → j < k + 1 → slice_get new j ≡ Some y → Calls m y n → is_among new n ≡ true
      done j y n lt there calls = go (split j k lt)
        where
          split : (i l : ℕ) → i < l + 1 → (i ≡ l) ⊎ (i < l)
          split i zero h = inl (omega (arith, h))
          split zero (suc l) h = inr (omega arith)
          split (suc i) (suc l) h = deeper (split i l (omega (arith, h)))
            where
              deeper : (i ≡ l) ⊎ (i < l) → (suc i ≡ suc l) ⊎ (suc i < suc l)
              deeper (inl e) = inl (ap suc e)
              deeper (inr e) = inr (omega (arith, e))

          go : (j ≡ k) ⊎ (j < k) → is_among new n ≡ true
          go (inl e) =
              let is : y ≡ x = same_Some y x (sym there ∙ ap (slice_get new) e ∙ where_is k within_old ∙ at) in
              adds.among n ∙ or_right (is_among old n) _ (all n (subst (λ z. Calls m z n) is calls))
          go (inr l) = stays n (r.closed j y n l (sym (where_is j (omega (arith, l, within_old))) ∙ there) calls)

  -- all are done
  pub reaching_all : (k : ℕ) (names : List Bytes) → length names ≤ k → Reaching m start k names → AreNames names (with_all_called m start)
  reaching_all k names end r n =
      same_test (is_among names n) (is_among (with_all_called m start) n) (r.within n)
      (closure_least m start names r.holds closed n)
    where
      closed : (x n : Bytes) → is_among names x ≡ true → defines_function m n ≡ true → is_among (called_by m (x ∷ [])) n ≡ true → is_among names n ≡ true
      closed x n h d c =
          let found = any_where (bytes_eq x) names h in
          let lt = slice_get_within names found.1 found.0 found.2 in
          r.closed found.1 x n (omega (arith, lt, end)) (found.2 ∙ ap Some (sym (name_exact x found.0 found.3))) (d, c)

  -- the same, where what is added is told by a test
  pub reaching_entry : (k : ℕ) (x : Bytes) (old more new : List Bytes) → slice_get old k ≡ Some x → Adds old more new
      → ((n : Bytes) → is_among more n ≡ (defines_function m n && is_among (called_by m (x ∷ [])) n)) → Reaching m start k old → Reaching m start (k + 1) new
  reaching_entry k x old more new at adds told r =
      reaching_more k x old more new at adds (λ n h. and_parts (defines_function m n) (is_among (called_by m (x ∷ [])) n) (sym (told n) ∙ h)) (λ n c. told n ∙ and_from (defines_function m n) (is_among (called_by m (x ∷ [])) n) c.0 c.1) r
