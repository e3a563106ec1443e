-- A machine whose every step is as its clause says writes before it reads.
use Rattle.std.proofs.Common.{◌≡◌, ℕ, suc, ◌+◌, ◌<◌, ◌≤◌, nat_le, Bool, true, false, List, [], ◌∷◌, ◌++◌, length, ◌⊎◌, inl, inr, refl, sym, ap, ◌∙◌, append_assoc, subst, arith}
use Rattle.std.proofs.lemmas.List.{append-nil, length-append}
use Rattle.std.proofs.lemmas.Bool.{leb-true, leb-false}
use Rattle.run_rules.specs.Clauses.{Outside, Traffic, HasRead, IsRest, IsFront, Stepped}
use Rattle.run_rules.specs.Machine.{Machine, input_left, state_of, advanced_of, look_of, table_of}
use Rattle.run_rules.specs.RunClauses.{Reached, ReadsWell, WritesBeforeItReads}
use Rattle.run_rules.proofs.OnLaws.Grows.{Grows, later_grows, asked_takes, step_adds_one}
use Rattle.run_rules.proofs.OnLaws.Reached.{steps_more, rest_before, rest_after}

pub front_of_front : (a b c : List ℕ) → IsFront a b → IsFront b c → IsFront a c
front_of_front a b c f g = (f.0 ++ g.0, g.1 ∙ ap (λ (ys : List ℕ). ys ++ g.0) f.1 ∙ append_assoc a f.0 g.0)

-- what was written before is
pub writes_before : (old new : Machine) (t : Traffic) → ReadsWell old new t → WritesBeforeItReads old new t
writes_before old new t (inl none) rest at h some b = let no_byte : ⊥ = omega (arith, subst (λ (xs : List ℕ). 0 < length xs) none some) in absurd no_byte
writes_before old new t (inr l) rest at h some b = go (nat_le b.count l.count) refl
  where
    go : (earlier : Bool) → nat_le b.count l.count ≡ earlier → IsFront at.output t.flushed
    go true e =
        let g : Grows at (l.after rest) = later_grows _ _ b.count l.count (state_of old (t.heard ++ rest) []) at (l.after rest) (leb-true _ _ e) b.steps (l.reached rest h) in
        front_of_front at.output (l.after rest).output t.flushed g.written (l.written rest h)
    go false e =
        let less : l.count < b.count = leb-false _ _ e in
        let g : Grows (l.after rest) at = later_grows _ _ l.count b.count (state_of old (t.heard ++ rest) []) (l.after rest) at (omega (arith, less)) (l.reached rest h) b.steps in
        let none : ⊥ = omega (arith, g.taken, l.consumed rest h, b.placed, l.near) in
        absurd none

pub adds_one : (mid new : Machine) (b c : Outside) → Stepped mid new b c → new.steps ≡ mid.steps + 1
adds_one mid new b c s = step_adds_one (look_of mid) (table_of mid) (state_of mid (s.traffic.heard ++ []) []) (state_of new [] s.traffic.flushed) (s.steps [] [] (λ o h. refl))

abbrev pub both : Traffic → Traffic → Traffic
both s t = record { heard = s.heard ++ t.heard; flushed = s.flushed ++ t.flushed }

-- a step that reads nothing
pub quiet_step : (old mid new : Machine) (s t : Traffic) → t.heard ≡ [] → ((rest : List ℕ) → IsRest old new rest → IsRest old mid (t.heard ++ rest)) → mid.steps ≤ new.steps → ReadsWell old mid s → ReadsWell old new (both s t)
quiet_step old mid new s t none keeps later (inl before) = inl (ap (λ (xs : List ℕ). xs ++ t.heard) before ∙ none)
quiet_step old mid new s t none keeps later (inr l) =
    inr (record {
      count = l.count;
      place = l.place;
      after = λ rest. l.after (t.heard ++ rest);
      within = omega (arith, l.within, later);
      reached = λ rest h. ap (λ (xs : List ℕ). advanced_of old l.count (state_of old xs [])) (append_assoc s.heard t.heard rest) ∙ l.reached (t.heard ++ rest) (keeps rest h);
      consumed = λ rest h. subst (λ (xs : List ℕ). length (l.after (t.heard ++ rest)).input + l.place < length xs) (sym (append_assoc s.heard t.heard rest)) (l.consumed (t.heard ++ rest) (keeps rest h));
      written = λ rest h. front_of_front (l.after (t.heard ++ rest)).output s.flushed (s.flushed ++ t.flushed) (l.written (t.heard ++ rest) (keeps rest h)) (t.flushed, refl);
      near = rw (none, append-nil s.heard) l.near;
    })

-- where nothing is unused and no read has given nothing, what is left is what the source has
pub left_alone : (m : Machine) (rest : List ℕ) → m.unused ≡ [] → m.closed ≡ false → input_left m rest ≡ rest
left_alone m rest u c = rw (u, c) refl

-- a step that reads some bytes
reading_step : (n : ℕ) (old mid new : Machine) (a b c : Outside) (r : Reached n old mid a b) (s : Stepped mid new b c) → 0 < length s.traffic.heard → HasRead mid new s.traffic c → ReadsWell old new (both r.traffic s.traffic)
reading_step n old mid new a b c r s some q =
    let first : Traffic = r.traffic in
    let second : Traffic = s.traffic in
    inr (record {
      count = suc n;
      place = length first.heard;
      after = λ rest. state_of new rest (first.flushed ++ second.flushed);
      within = omega (arith, r.made, adds_one mid new b c s);
      reached = λ rest h. steps_more n old mid new a b c r s rest [] h;
      consumed =
          λ rest h.
          let left : input_left mid (second.heard ++ rest) ≡ second.heard ++ rest = left_alone mid (second.heard ++ rest) q.none_unused q.was_open in
          let long : length (second.heard ++ rest) ≡ length second.heard + length rest = length-append second.heard rest in
          let there : 0 < length (input_left mid (second.heard ++ rest)) = subst (λ (xs : List ℕ). 0 < length xs) (sym left) (omega (arith, long, some)) in
          let fewer : length (input_left new rest) < length (input_left mid (second.heard ++ rest)) =
          asked_takes (look_of mid) (table_of mid) (state_of mid (second.heard ++ rest) []) (state_of new rest ([] ++ second.flushed)) (q.asked (second.heard ++ rest) []) there
          (s.steps rest [] (rest_after_first old mid new a b n r rest h)) in
          omega (arith, fewer, ap length left, ap length (append_assoc first.heard second.heard rest), length-append first.heard (second.heard ++ rest));
      written = λ rest h. ([], rw q.none_held (sym (append-nil _ ∙ append-nil _)));
      near = omega (arith, length-append first.heard second.heard, q.few);
    })
  where
    rest_after_first : (old mid new : Machine) (a b : Outside) (n : ℕ) (r : Reached n old mid a b) (rest : List ℕ) → IsRest old new rest → IsRest mid new rest
    rest_after_first old mid new a b n r rest h = rest_after old mid new rest (λ o. (r.went.stays o).0) h

-- one step more
pub reads_well_more : (n : ℕ) (old mid new : Machine) (a b c : Outside) (r : Reached n old mid a b) (s : Stepped mid new b c) → ReadsWell old mid r.traffic → ReadsWell old new (both r.traffic s.traffic)
reads_well_more n old mid new a b c r s w = go s.traffic.heard refl s.reads
  where
    go : (heard : List ℕ) → s.traffic.heard ≡ heard → ((s.traffic.heard ≡ []) × (new.closed ≡ mid.closed)) ⊎ HasRead mid new s.traffic c → ReadsWell old new (both r.traffic s.traffic)
    go [] e q = quiet_step old mid new r.traffic s.traffic e (λ rest h. rest_before old mid new s.traffic c rest s.reads h) (omega (arith, adds_one mid new b c s)) w
    go (byte ∷ heard) e (inl q) = cc
    go (byte ∷ heard) e (inr q) = reading_step n old mid new a b c r s (subst (λ (xs : List ℕ). 0 < length xs) (sym e) (omega arith)) q

-- more is written behind what was read
pub written_more : (old mid new : Machine) (s : Traffic) (more : List ℕ) → ((rest : List ℕ) → IsRest old new rest → IsRest old mid rest) → mid.steps ≤ new.steps → ReadsWell old mid s
    → ReadsWell old new (record s { flushed = s.flushed ++ more })
written_more old mid new s more keeps later (inl before) = inl before
written_more old mid new s more keeps later (inr l) =
    inr (record {
      count = l.count;
      place = l.place;
      after = l.after;
      within = omega (arith, l.within, later);
      reached = λ rest h. l.reached rest (keeps rest h);
      consumed = λ rest h. l.consumed rest (keeps rest h);
      written = λ rest h. front_of_front (l.after rest).output s.flushed (s.flushed ++ more) (l.written rest (keeps rest h)) (more, refl);
      near = l.near;
    })
