-- A walk from struct to struct that never finds a measure comes back to where it was.
use Rattle.std.specs.Prelude.{◌≡◌, refl, ℕ, zero, suc, ◌+◌, ◌≤◌, Bool, true, false, cond, ◌||◌, ◌&&◌, ◌⊎◌, List, [], ◌∷◌, length, map, bytes_eq, is_none, slice_index_or, Option, Some, None}
use Rattle.std.specs.List.{list_any}
use Rattle.std.proofs.Common.{ap, sym, subst, ◌∙◌, arith, inl, inr}
use Rattle.std.proofs.lemmas.Slice.Eq.{bytes_eq-Decides}
use Rattle.std.proofs.lemmas.List.{length-map}
use Rattle.type_table.specs.declared.measure.Measure.{Measure}
use Rattle.type_table.specs.Measures.{opaque_measure}
use Rattle.type_table.specs.Tree.{TreeBody, Structs, index_of, body_of}
use Rattle.module_arena.specs.Module.{Bytes}
use Rattle.name_rules.specs.Measured.{names_of, body_names, hold_within, contains_itself}
use Rattle.name_rules.proofs.Levels.{level, level_next, first_level, first_none, stays_on}
use Rattle.name_rules.proofs.Cycles.{Has, body_lacks, lacking_body}

module _ (structs : Structs) where
  -- a field of the first struct writes the second
  abbrev pub Mentions : Bytes → Bytes → Type 0
  Mentions y z = Has z (body_names (body_of structs y))

  -- the struct holds that one, through fewer others than this
  abbrev pub Reaches : Bytes → ℕ → Bytes → Type 0
  Reaches x zero y = ⊥
  Reaches x (suc room) y = (z : Bytes) × Mentions y z × ((z ≡ x) ⊎ Reaches x room z)

  one_more : (x : Bytes) (room : ℕ) (y : Bytes) → Reaches x room y → Reaches x (suc room) y
  one_more x zero y r = absurd r
  one_more x (suc room) y (z, m, inl e) = (z, m, inl e)
  one_more x (suc room) y (z, m, inr r) = (z, m, inr (one_more x room z r))

  more_room : (x : Bytes) (extra room : ℕ) (y : Bytes) → Reaches x room y → Reaches x (extra + room) y
  more_room x zero room y r = subst (λ k. Reaches x k y) (zero_in_front room) r
    where
      zero_in_front : (k : ℕ) → k ≡ 0 + k
      zero_in_front k = omega arith
  more_room x (suc extra) room y r = subst (λ k. Reaches x k y) (one_in_front extra room) (one_more x (extra + room) y (more_room x extra room y r))
    where
      one_in_front : (k m : ℕ) → suc (k + m) ≡ suc k + m
      one_in_front k m = omega arith

  further : (s t : Bytes) (room : ℕ) (y : Bytes) → Reaches s room y → Mentions s t → Reaches t (suc room) y
  further s t zero y r m = absurd r
  further s t (suc room) y (z, k, inl e) m = (z, k, inr (t, subst (λ w. Mentions w t) (sym e) m, inl refl))
  further s t (suc room) y (z, k, inr r) m = (z, k, inr (further s t room z r m))

  some_is : (p : Bytes → Bool) (names : List Bytes) (z : Bytes) → Has z names → p z ≡ true → list_any p names ≡ true
  some_is p [] z h e = absurd h
  some_is p (n ∷ names) z (inl q) e = ap (λ b. b || list_any p names) (ap p (sym q) ∙ e)
  some_is p (n ∷ names) z (inr h) e = by (p n) (some_is p names z h e)
    where
      by : (b : Bool) → list_any p names ≡ true → (b || list_any p names) ≡ true
      by true k = refl
      by false k = k

  or_second : (b : Bool) → (b || true) ≡ true
  or_second true = refl
  or_second false = refl

  -- what the struct reaches, the search finds
  found : (x : Bytes) (room : ℕ) (y : Bytes) → Reaches x room y → hold_within structs x room (body_names (body_of structs y)) ≡ true
  unfolding hold_within
  found x zero y r = absurd r
  found x (suc room) y (z, m, inl e) =
      let test : Bytes → Bool = λ n. bytes_eq n x || hold_within structs x room (body_names (body_of structs n)) in
      some_is test (body_names (body_of structs y)) z m (ap (λ b. b || hold_within structs x room (body_names (body_of structs z))) ((bytes_eq-Decides z x).1 e))
  found x (suc room) y (z, m, inr r) =
      let test : Bytes → Bool = λ n. bytes_eq n x || hold_within structs x room (body_names (body_of structs n)) in
      some_is test (body_names (body_of structs y)) z m (ap (λ b. bytes_eq z x || b) (found x room z r) ∙ or_second (bytes_eq z x))

  pub at_first : (y z : Bytes) → Mentions y z → level structs zero y ≡ None
  at_first y z m = by (level structs zero y) refl
    where
      by : (o : Option Measure) → level structs zero y ≡ o → o ≡ None
      by None e = refl
      by (Some k) e = absurd (subst (λ body. Has z (body_names body)) (first_level structs y k e) m)

  -- what reaches a struct that contains itself never has a measure
  pub never : (x : Bytes) (turn : ℕ) → Reaches x turn x → (n room : ℕ) (y : Bytes) → Reaches x room y → level structs n y ≡ None
  never x turn loop n zero y r = absurd r
  never x turn loop zero (suc room) y (z, m, w) = at_first y z m
  never x turn loop (suc n) (suc room) y (z, m, inl e) =
      level_next structs n y ∙ lacking_body (level structs n) (body_of structs y) z m (ap (level structs n) e ∙ never x turn loop n turn x loop)
  never x turn loop (suc n) (suc room) y (z, m, inr r) =
      level_next structs n y ∙ lacking_body (level structs n) (body_of structs y) z m (never x turn loop n room z r)

  pub none_first : (n : ℕ) (s : Bytes) → level structs n s ≡ None → level structs zero s ≡ None
  none_first n s e = by (level structs zero s) refl
    where
      by : (o : Option Measure) → level structs zero s ≡ o → o ≡ None
      by None q = refl
      by (Some m) q = let later = stays_on structs n s m q in absurd cc

  without : Bytes → List Bytes → List Bytes
  without s [] = []
  without s (y ∷ ys) = cond (bytes_eq y s) (without s ys) (y ∷ without s ys)

  no_longer : (s : Bytes) (rest : List Bytes) → length (without s rest) ≤ length rest
  unfolding without
  no_longer s [] = omega arith
  no_longer s (y ∷ ys) = by (bytes_eq y s) (no_longer s ys)
    where
      by : (b : Bool) → length (without s ys) ≤ length ys → length (cond b (without s ys) (y ∷ without s ys)) ≤ suc (length ys)
      by true h = omega (arith, h)
      by false h = omega (arith, h)

  shorter : (s : Bytes) (rest : List Bytes) → Has s rest → suc (length (without s rest)) ≤ length rest
  unfolding without
  shorter s [] h = absurd h
  shorter s (y ∷ ys) (inl e) =
      let less = no_longer s ys in
      let same = (bytes_eq-Decides y s).1 (sym e) in
      subst (λ b. suc (length (cond b (without s ys) (y ∷ without s ys))) ≤ suc (length ys)) (sym same) (omega (arith, less))
  shorter s (y ∷ ys) (inr h) = by (bytes_eq y s) (shorter s ys h)
    where
      by : (b : Bool) → suc (length (without s ys)) ≤ length ys → suc (length (cond b (without s ys) (y ∷ without s ys))) ≤ suc (length ys)
      by true k = omega (arith, k)
      by false k = omega (arith, k)

  still_there : (s x : Bytes) (rest : List Bytes) → bytes_eq x s ≡ false → Has x rest → Has x (without s rest)
  unfolding without
  still_there s x [] other h = absurd h
  still_there s x (y ∷ ys) other (inl e) =
      let same : bytes_eq y s ≡ false = ap (λ z. bytes_eq z s) (sym e) ∙ other in
      subst (λ b. Has x (cond b (without s ys) (y ∷ without s ys))) (sym same) (inl e)
  still_there s x (y ∷ ys) other (inr h) = by (bytes_eq y s) (still_there s x ys other h)
    where
      by : (b : Bool) → Has x (without s ys) → Has x (cond b (without s ys) (y ∷ without s ys))
      by true k = k
      by false k = inr k

  -- each struct is still to come, or leads to this one
  abbrev Covers : List Bytes → ℕ → Bytes → Type 0
  Covers rest k s = (y : Bytes) → level structs zero y ≡ None → Has y rest ⊎ Reaches s k y

  next_covers : (rest : List Bytes) (k : ℕ) (s t : Bytes) → Mentions s t → Covers rest k s → Covers (without s rest) (suc k) t
  next_covers rest k s t m cover y z = by (cover y z)
    where
      other : (b : Bool) → bytes_eq y s ≡ b → Has y rest → Has y (without s rest) ⊎ Reaches t (suc k) y
      other true e h = inr (t, subst (λ w. Mentions w t) (sym ((bytes_eq-Decides y s).0 e)) m, inl refl)
      other false e h = inl (still_there s y rest e h)

      by : Has y rest ⊎ Reaches s k y → Has y (without s rest) ⊎ Reaches t (suc k) y
      by (inl h) = other (bytes_eq y s) refl h
      by (inr r) = inr (further s t k y r m)

  -- a walk through structs without measures that has no more structs to come than steps comes back
  pub walk : (n k all : ℕ) (rest : List Bytes) (s : Bytes) → level structs n s ≡ None → length rest ≤ n → n + k ≡ all → Covers rest k s → (x : Bytes) × Reaches x all x
  walk zero k all rest s e few sum cover = by rest few (cover s (none_first zero s e))
    where
      by : (rest : List Bytes) → length rest ≤ 0 → Has s rest ⊎ Reaches s k s → (x : Bytes) × Reaches x all x
      by [] f (inl h) = absurd h
      by (y ∷ ys) f h = absurd (omega (arith, f))
      by [] f (inr r) = (s, subst (λ m. Reaches s m s) sum (more_room s 0 k s r))
  walk (suc n) k all rest s e few sum cover = by (cover s (none_first (suc n) s e)) (λ r t q f u c. walk n (suc k) all r t q f u c)
    where
      sums : n + suc k ≡ all
      sums = omega (arith, sum)

      by : Has s rest ⊎ Reaches s k s → ((r : List Bytes) (t : Bytes) → level structs n t ≡ None → length r ≤ n → n + suc k ≡ all → Covers r (suc k) t → (x : Bytes) × Reaches x all x) → (x : Bytes) × Reaches x all x
      by (inr r) on_ = (s, subst (λ m. Reaches s m s) sum (more_room s (suc n) k s r))
      by (inl h) on_ =
          let lack = body_lacks (level structs n) (body_of structs s) (sym (level_next structs n s) ∙ e) in
          let less = shorter s rest h in
          on_ (without s rest) lack.0 lack.2 (omega (arith, less, few)) sums (next_covers rest k s lack.0 lack.1 cover)

pub has_name : (xs : Structs) (y : Bytes) → slice_index_or (map (λ s. None) xs) (index_of (names_of xs) y) (Some opaque_measure) ≡ None → Has y (names_of xs)
has_name [] y e = absurd cc
has_name (x ∷ xs) y e = by (bytes_eq x.0 y) refl e (λ q. has_name xs y q)
  where
    by : (b : Bool) → bytes_eq x.0 y ≡ b → slice_index_or (map (λ s. None) (x ∷ xs)) (cond b 0 (suc (index_of (names_of xs) y))) (Some opaque_measure) ≡ None
        → (slice_index_or (map (λ s. None) xs) (index_of (names_of xs) y) (Some opaque_measure) ≡ None → Has y (names_of xs)) → Has y (names_of (x ∷ xs))
    by true same q again = inl (sym ((bytes_eq-Decides x.0 y).0 same))
    by false same q again = inr (again q)

module _ (structs : Structs) where
  -- where no struct without a measure contains itself, each has one
  pub every_measured : ((x : Bytes) → (is_none (level structs (length structs) x) && contains_itself structs x) ≡ false) → (name : Bytes) → (m : Measure) × (level structs (length structs) name ≡ Some m)
  every_measured ends name = by (level structs (length structs) name) refl
    where
      count : length (names_of structs) ≤ length structs
      count = let same = length-map structs (λ (s : Bytes × TreeBody). s.0) in omega (arith, same)

      sum : (n : ℕ) → n + 0 ≡ n
      sum n = omega arith

      by : (o : Option Measure) → level structs (length structs) name ≡ o → (m : Measure) × (level structs (length structs) name ≡ Some m)
      by (Some m) e = (m, e)
      by None e =
          let n = length structs in
          let round = walk structs n 0 n (names_of structs) name e count (sum n) (λ y z. inl (has_name structs y (first_none structs y z))) in
          let none = never structs round.0 n round.1 n n round.0 round.1 in
          let holds = found structs round.0 n round.0 round.1 in
          let both : (is_none (level structs n round.0) && contains_itself structs round.0) ≡ true = λ j. is_none (none j) && holds j in
          let no = ends round.0 in
          absurd cc
