-- Tokens that are taken one by one, until a step ends the phrase, are read.
use Rattle.std.proofs.Common.{◌≡◌, ℕ, ◌≤◌, List, [], ◌∷◌, ◌++◌, length, false, inl, inr, refl, ap, arith}
use Rattle.std.proofs.lemmas.Bool.{cases_Bool}
use Rattle.ir_terminals.specs.PhraseRows.Row.{Reading, Done, Bad, among, TokenMove, On, Ends, Stops, EndsWith, GoesOn, machine, run_machine}
use Rattle.ir_terminals.specs.PhraseRows.Reads.{Begins, Front, Takes, tokens_behind, Reads}
use Rattle.ir_terminals.proofs.OnPhraseRows.ListParts.{nil_parts, takes_left}

module _ {T S A : Type 0} (class : T → ℕ) (first : List ℕ) (step : S → T → TokenMove S A) where
  cons_takes : (s m : S) (t : T) (ts : List T) (x : Reading T A) → step s t ≡ On m → Takes (machine first step m) ts x → Takes (machine first step s) (t ∷ ts) x
  cons_takes s m t ts (Done a rest) e (us, d, w) = (t ∷ us, ap (λ (y : List T). t ∷ y) d, rw (e, EndsWith) w)
  cons_takes s m t ts (Bad rest) e (us, d, c) = (t ∷ us, ap (λ (y : List T). t ∷ y) d, rw (e, GoesOn) c)

  takes_by : (s : S) (t : T) (ts : List T) (x : TokenMove S A) → step s t ≡ x → ((m : S) → Takes (machine first step m) ts (run_machine step m ts)) → Takes (machine first step s) (t ∷ ts) (elim x [ On m ↦ run_machine step m ts | Ends a ↦ Done a ts | Stops ↦ Bad (t ∷ ts) ])
  takes_by s t ts (On m) e ih = cons_takes s m t ts (run_machine step m ts) e (ih m)
  takes_by s t ts (Ends a) e ih = (t ∷ [], refl, rw (e, EndsWith) (refl, refl))
  takes_by s t ts Stops e ih = ([], refl, tt)

  machine_takes : (ts : List T) (s : S) → Takes (machine first step s) ts (run_machine step s ts)
  machine_takes [] s = ([], refl, tt)
  machine_takes (t ∷ ts) s = takes_by s t ts (step s t) refl (machine_takes ts)

  complete_by : (t : T) (us rest : List T) (a : A) (x : TokenMove S A) → elim x as (λ m. Type 0) [ On m ↦ EndsWith step m us a | Ends b ↦ (us ≡ []) × (a ≡ b) | Stops ↦ ⊥ ] → ((m : S) → EndsWith step m us a → run_machine step m (us ++ rest) ≡ Done a rest) → elim x as (λ m. Reading T A) [ On m ↦ run_machine step m (us ++ rest) | Ends b ↦ Done b (us ++ rest) | Stops ↦ Bad (t ∷ (us ++ rest)) ] ≡ Done a rest
  complete_by t us rest a (On m) w ih = ih m w
  complete_by t us rest a (Ends b) w ih = rw w.0 (rw w.1 refl)
  complete_by t us rest a Stops w ih = absurd w

  machine_complete : (us rest : List T) (s : S) (a : A) → EndsWith step s us a → run_machine step s (us ++ rest) ≡ Done a rest
  machine_complete [] rest s a w = absurd w
  machine_complete (t ∷ us) rest s a w = complete_by t us rest a (step s t) w (λ m v. machine_complete us rest m a v)

  past_by : (t : T) (us rest : List T) (x : TokenMove S A) → elim x as (λ m. Type 0) [ On m ↦ GoesOn step m us | Ends b ↦ ⊥ | Stops ↦ ⊥ ] → ((m : S) → GoesOn step m us → length (tokens_behind (run_machine step m (us ++ rest))) ≤ length rest) → length (tokens_behind (elim x as (λ m. Reading T A) [ On m ↦ run_machine step m (us ++ rest) | Ends b ↦ Done b (us ++ rest) | Stops ↦ Bad (t ∷ (us ++ rest)) ])) ≤ length rest
  past_by t us rest (On m) c ih = ih m c
  past_by t us rest (Ends b) c ih = absurd c
  past_by t us rest Stops c ih = absurd c

  past_cut : (us rest : List T) (s : S) → GoesOn step s us → length (tokens_behind (run_machine step s (us ++ rest))) ≤ length rest
  past_cut [] rest s c = takes_left (machine first step s) rest (run_machine step s rest) (machine_takes rest s)
  past_cut (t ∷ us) rest s c = past_by t us rest (step s t) c (past_cut us rest)

  machine_past : (us rest : List T) (s : S) → Front (machine first step s) us → length (tokens_behind (run_machine step s (us ++ rest))) ≤ length rest
  machine_past us rest s (inl (a, w)) = let h = ap (λ (x : Reading T A). length (tokens_behind x)) (machine_complete us rest s a w) in omega (arith, h)
  machine_past us rest s (inr c) = past_cut us rest s c

  front_on : (s m : S) (t : T) (us : List T) → step s t ≡ On m → Front (machine first step m) us → Front (machine first step s) (t ∷ us)
  front_on s m t us e (inl (a, w)) = inl (a, rw (e, EndsWith) w)
  front_on s m t us e (inr c) = inr (rw (e, GoesOn) c)

  ended_closed_by : (s : S) (t : T) (us vs : List T) (a : A) (x : TokenMove S A) → step s t ≡ x → elim x as (λ m. Type 0) [ On m ↦ EndsWith step m (us ++ vs) a | Ends b ↦ (us ++ vs ≡ []) × (a ≡ b) | Stops ↦ ⊥ ] → ((m : S) → EndsWith step m (us ++ vs) a → Front (machine first step m) us) → Front (machine first step s) (t ∷ us)
  ended_closed_by s t us vs a (On m) e w ih = front_on s m t us e (ih m w)
  ended_closed_by s t us vs a (Ends b) e w ih = inl (b, rw (e, EndsWith) ((nil_parts us vs w.0).0, refl))
  ended_closed_by s t us vs a Stops e w ih = absurd w

  ended_closed : (us vs : List T) (s : S) (a : A) → EndsWith step s (us ++ vs) a → Front (machine first step s) us
  ended_closed [] vs s a w = inr tt
  ended_closed (t ∷ us) vs s a w = ended_closed_by s t us vs a (step s t) refl w (λ m v. ended_closed us vs m a v)

  going_closed_by : (us vs : List T) (x : TokenMove S A) → elim x as (λ m. Type 0) [ On m ↦ GoesOn step m (us ++ vs) | Ends b ↦ ⊥ | Stops ↦ ⊥ ] → ((m : S) → GoesOn step m (us ++ vs) → GoesOn step m us) → elim x as (λ m. Type 0) [ On m ↦ GoesOn step m us | Ends b ↦ ⊥ | Stops ↦ ⊥ ]
  going_closed_by us vs (On m) c ih = ih m c
  going_closed_by us vs (Ends b) c ih = c
  going_closed_by us vs Stops c ih = c

  going_closed : (us vs : List T) (s : S) → GoesOn step s (us ++ vs) → GoesOn step s us
  going_closed [] vs s c = tt
  going_closed (t ∷ us) vs s c = going_closed_by us vs (step s t) c (going_closed us vs)

  machine_closed : (us vs : List T) (s : S) → Front (machine first step s) (us ++ vs) → Front (machine first step s) us
  machine_closed us vs s (inl (a, w)) = ended_closed us vs s a w
  machine_closed us vs s (inr c) = inr (going_closed us vs s c)

  stopped : (s : S) (t : T) (us : List T) → step s t ≡ Stops → Front (machine first step s) (t ∷ us) → ⊥
  stopped s t us e (inl (a, w)) = rw (e, EndsWith) at w
  stopped s t us e (inr c) = rw (e, GoesOn) at c

  machine_begins : (s : S) → ((t : T) → among (class t) first ≡ false → step s t ≡ Stops) → (us : List T) → Front (machine first step s) us → Begins class first us
  machine_begins s out [] f = tt
  machine_begins s out (t ∷ us) f = elim (cases_Bool (among (class t) first)) [ inl e ↦ e | inr e ↦ absurd (stopped s t us (out t e) f) ]

-- where in the first state each token of another class stops
pub reads_machine : {T S A : Type 0} (class : T → ℕ) (first : List ℕ) (step : S → T → TokenMove S A) (s : S) → ((t : T) → among (class t) first ≡ false → step s t ≡ Stops) → Reads class (machine first step s) (machine first step s).shape
reads_machine class first step s out = record {
  takes = λ ts. machine_takes class first step ts s;
  complete = λ us rest a w st. machine_complete class first step us rest s a w;
  past = λ us rest f. machine_past class first step us rest s f;
  begins = machine_begins class first step s out;
  empty = λ a w. absurd w;
  none = inr tt;
  closed = λ us vs f. machine_closed class first step us vs s f;
}

-- a step goes on
pub machine_on : {T S A : Type 0} (first : List ℕ) (step : S → T → TokenMove S A) (s m : S) (t : T) (ts : List T) → step s t ≡ On m → (machine first step s).run (t ∷ ts) ≡ (machine first step m).run ts
machine_on first step s m t ts e = rw (e, run_machine) refl

-- a step ends the phrase
pub machine_ends : {T S A : Type 0} (first : List ℕ) (step : S → T → TokenMove S A) (s : S) (a : A) (t : T) (ts : List T) → step s t ≡ Ends a → (machine first step s).run (t ∷ ts) ≡ Done a ts
machine_ends first step s a t ts e = rw (e, run_machine) refl

-- a token is no part of the phrase
pub machine_stops : {T S A : Type 0} (first : List ℕ) (step : S → T → TokenMove S A) (s : S) (t : T) (ts : List T) → step s t ≡ Stops → (machine first step s).run (t ∷ ts) ≡ Bad (t ∷ ts)
machine_stops first step s t ts e = rw (e, run_machine) refl

-- no token is left
pub machine_none : {T S A : Type 0} (first : List ℕ) (step : S → T → TokenMove S A) (s : S) → (machine first step s).run [] ≡ Bad []
machine_none first step s = refl
