-- Any number of steps is read, each in the state that the one before gave.
use Rattle.std.proofs.Common.{◌≡◌, ℕ, zero, suc, ◌≤◌, ◌<◌, List, [], ◌∷◌, ◌++◌, length, Bool, true, false, ◌⊎◌, inl, inr, refl, sym, ap, subst, ◌∙◌, append_assoc, append-nil, arith, length-append, cond}
use Rattle.ir_terminals.specs.PhraseRows.Row.{Reading, Done, Bad, bind, PhraseShape, Row, among, apart, begins, loop, run_loop, Steps}
use Rattle.ir_terminals.specs.PhraseRows.Reads.{Stops, Begins, Front, Takes, tokens_behind, Reads}
use Rattle.ir_terminals.proofs.OnPhraseRows.ListParts.{split, nil_parts, apart_out, takes_left, bind_left, stops_left, stops_right}

module _ {T S : Type 0} (class : T → ℕ) (form : PhraseShape) (q : S → Row T S) (hq : (s : S) → Reads class (q s) form) (ok : apart form.more form.first ≡ true) (some : form.empty ≡ false) where
  loop_takes_rest : (s m : S) (ts us mid : List T) (x : Reading T S) → ts ≡ us ++ mid → (q s).whole us m → Takes (loop class form q m) mid x → Takes (loop class form q s) ts x
  loop_takes_rest s m ts us mid (Done last rest) e w (vs, d, (ms, steps)) = (us ++ vs, e ∙ ap (λ (t : List T). us ++ t) d ∙ sym (append_assoc us vs rest), (m ∷ ms, (us, vs, refl, w, steps)))
  loop_takes_rest s m ts us mid (Bad rest) e w (vs, d, (ms, last, es, bs, g, steps, c)) = (
    us ++ vs,
    e ∙ ap (λ (t : List T). us ++ t) d ∙ sym (append_assoc us vs rest),
    (m ∷ ms, last, us ++ es, bs, ap (λ (t : List T). us ++ t) g ∙ sym (append_assoc us es bs), (us, es, refl, w, steps), c),
  )

  loop_takes_first : (n : ℕ) (s : S) (ts : List T) (x : Reading T S) → Takes (q s) ts x → ((m : S) (rest : List T) → Takes (loop class form q m) rest (run_loop class form q n m rest)) → Takes (loop class form q s) ts (bind x (λ m rest. run_loop class form q n m rest))
  loop_takes_first n s ts (Done m rest) h ih = loop_takes_rest s m ts h.0 rest (run_loop class form q n m rest) h.1 h.2 (ih m rest)
  loop_takes_first n s ts (Bad rest) h ih = (h.0, h.1, ([], s, [], h.0, refl, (refl, refl), h.2))

  loop_takes_if : (b : Bool) (s : S) (ts : List T) (x : Reading T S) → Takes (loop class form q s) ts x → Takes (loop class form q s) ts (cond b x (Done s ts))
  loop_takes_if true s ts x h = h
  loop_takes_if false s ts x h = ([], refl, ([], (refl, refl)))

  loop_takes : (n : ℕ) (s : S) (ts : List T) → Takes (loop class form q s) ts (run_loop class form q n s ts)
  loop_takes zero s ts = ([], refl, ([], (refl, refl)))
  loop_takes (suc n) s ts = loop_takes_if (begins class form.first ts) s ts (bind ((q s).run ts) (λ m rest. run_loop class form q n m rest)) (loop_takes_first n s ts ((q s).run ts) ((hq s).takes ts) (loop_takes n))

  -- whole steps, and then nothing or a cut one
  Fronts : S → List T → List S → Type 0
  Fronts s us [] = (us ≡ []) ⊎ (q s).cut us
  Fronts s us (m ∷ ms) = (vs : List T) × (ws : List T) × (us ≡ vs ++ ws) × (q s).whole vs m × Fronts m ws ms

  step_fronts : (ms : List S) (s last : S) (us : List T) → Steps (λ m. (q m).whole) s us ms last → Fronts s us ms
  unfolding Fronts
  step_fronts [] s last us e = inl e.0
  step_fronts (m ∷ ms) s last us e = (e.0, e.1, e.2, e.3, step_fronts ms m last e.1 e.4)

  cut_fronts : (ms : List S) (s last : S) (us vs ws : List T) → us ≡ vs ++ ws → Steps (λ m. (q m).whole) s vs ms last → (q last).cut ws → Fronts s us ms
  unfolding Fronts
  cut_fronts [] s last us vs ws e h c = inr (rw e (rw h.0 (rw h.1 at c)))
  cut_fronts (m ∷ ms) s last us vs ws e h c = (h.0, h.1 ++ ws, rw e (rw h.2 (append_assoc h.0 h.1 ws)), h.3, cut_fronts ms m last (h.1 ++ ws) h.1 ws refl h.4 c)

  to_fronts : (s : S) (us : List T) → Front (loop class form q s) us → (ms : List S) × Fronts s us ms
  to_fronts s us (inl w) = (w.1.0, step_fronts w.1.0 s w.0 us w.1.1)
  to_fronts s us (inr (ms, last, vs, ws, e, h, c)) = (ms, cut_fronts ms s last us vs ws e h c)

  none_front : (s : S) → Front (loop class form q s) []
  none_front s = inl (s, ([], (refl, refl)))

  cons_front : (s m : S) (vs ws : List T) → (q s).whole vs m → Front (loop class form q m) ws → Front (loop class form q s) (vs ++ ws)
  cons_front s m vs ws w (inl (last, (ms, h))) = inl (last, (m ∷ ms, (vs, ws, refl, w, h)))
  cons_front s m vs ws w (inr (ms, last, es, bs, e, h, c)) = inr (m ∷ ms, last, vs ++ es, bs, ap (λ (t : List T). vs ++ t) e ∙ sym (append_assoc vs es bs), (vs, es, refl, w, h), c)

  one_front : (s : S) (us : List T) → Front (q s) us → Front (loop class form q s) us
  one_front s us (inl (m, w)) = subst (λ (t : List T). Front (loop class form q s) t) (append-nil us) (cons_front s m us [] w (none_front m))
  one_front s us (inr c) = inr ([], s, [], us, refl, (refl, refl), c)

  loop_closed : (ms : List S) (s : S) (us vs ts : List T) → us ++ vs ≡ ts → Fronts s ts ms → Front (loop class form q s) us
  unfolding Fronts
  loop_closed [] s us vs ts e (inl f) = rw (nil_parts us vs (e ∙ f)).0 (none_front s)
  loop_closed [] s us vs ts e (inr c) = one_front s us ((hq s).closed us vs (inr (rw e c)))
  loop_closed (m ∷ ms) s us vs ts e (ys, zs, d, w, f) = elim (split us vs ys zs (e ∙ d)) [
    | inl k ↦ one_front s us ((hq s).closed us k.0 (inl (m, rw k.1 at w)))
    | inr k ↦ rw k.1 (cons_front s m ys k.0 w (loop_closed ms m k.0 vs zs (sym k.2) f))
  ]

  loop_begins : (ms : List S) (s : S) (us : List T) → Fronts s us ms → Begins class form.first us
  unfolding Fronts
  loop_begins [] s us (inl e) = rw e tt
  loop_begins [] s us (inr c) = (hq s).begins us (inr c)
  loop_begins (m ∷ ms) s us (vs, ws, e, w, f) = rw e (begins_first vs ws m w)
    where
      begins_first : (vs ws : List T) (m : S) → (q s).whole vs m → Begins class form.first (vs ++ ws)
      begins_first [] ws m w = absurd (let h = (hq s).empty m w in cc)
      begins_first (v ∷ vs) ws m w = (hq s).begins (v ∷ vs) (inl (m, w))

  loop_stop : (n : ℕ) (s : S) (rest : List T) → Stops class form.first rest → run_loop class form q n s rest ≡ Done s rest
  loop_stop zero s rest st = refl
  loop_stop (suc n) s [] st = refl
  loop_stop (suc n) s (t ∷ ts) st = rw st refl

  Go : ℕ → Reading T S → Reading T S
  Go n x = bind x (λ m rest. run_loop class form q n m rest)

  loop_go : (n : ℕ) (s : S) (u : T) (us rest : List T) → Front (q s) (u ∷ us) → run_loop class form q (suc n) s (u ∷ (us ++ rest)) ≡ Go n ((q s).run (u ∷ (us ++ rest)))
  unfolding Go
  loop_go n s u us rest f = rw ((hq s).begins (u ∷ us) f) refl

  stops_next : (ms : List S) (s : S) (ws rest : List T) → Fronts s ws ms → Stops class (form.more ++ form.first) rest → Stops class form.more (ws ++ rest)
  stops_next ms s [] rest f st = stops_left class form.more form.first rest st
  stops_next ms s (w ∷ ws) rest f st = apart_out (class w) form.more form.first ok (loop_begins ms s (w ∷ ws) f)

  complete_cons : (n : ℕ) (s m last : S) (vs ws rest : List T) → length (vs ++ (ws ++ rest)) ≤ n → (q s).whole vs m → Stops class form.more (ws ++ rest) → ((n : ℕ) → length (ws ++ rest) ≤ n → run_loop class form q n m (ws ++ rest) ≡ Done last rest) → run_loop class form q n s (vs ++ (ws ++ rest)) ≡ Done last rest
  unfolding Go
  complete_cons n s m last [] ws rest le w st ih = absurd (let h = (hq s).empty m w in cc)
  complete_cons zero s m last (v ∷ vs) ws rest le w st ih = absurd (omega arith)
  complete_cons (suc n) s m last (v ∷ vs) ws rest le w st ih =
      loop_go n s v vs (ws ++ rest) (inl (m, w)) ∙ (rw ((hq s).complete (v ∷ vs) (ws ++ rest) m w st) (ih n (omega (arith, length-append vs (ws ++ rest)))))

  loop_complete : (ms : List S) (s last : S) (us rest : List T) (n : ℕ) → length (us ++ rest) ≤ n → Steps (λ m. (q m).whole) s us ms last → Stops class (form.more ++ form.first) rest → run_loop class form q n s (us ++ rest) ≡ Done last rest
  loop_complete [] s last us rest n le e st = rw e.0 (rw e.1 (loop_stop n s rest (stops_right class form.more form.first rest st)))
  loop_complete (m ∷ ms) s last us rest n le (vs, ws, e, w, steps) st =
      let parted = ap (λ (t : List T). t ++ rest) e ∙ append_assoc vs ws rest in
      rw parted (complete_cons n s m last vs ws rest (rw parted at le) w (stops_next ms m ws rest (step_fronts ms m last ws steps) st) (λ k h. loop_complete ms m last ws rest k h steps st))

  go_left : (n : ℕ) (x : Reading T S) → length (tokens_behind (Go n x)) ≤ length (tokens_behind x)
  unfolding Go
  go_left n x = bind_left x (λ m rest. run_loop class form q n m rest) (λ m rest. takes_left (loop class form q m) rest (run_loop class form q n m rest) (loop_takes n m rest))

  past_one : (n : ℕ) (s : S) (u : T) (us rest : List T) → Front (q s) (u ∷ us) → length (tokens_behind (run_loop class form q (suc n) s (u ∷ (us ++ rest)))) ≤ length rest
  past_one n s u us rest f =
      let h = go_left n ((q s).run (u ∷ (us ++ rest))) in
      let g = (hq s).past (u ∷ us) rest f in
      rw (loop_go n s u us rest f) (omega (arith, h, g))

  past_cons : (n : ℕ) (s m : S) (vs ws rest : List T) → length (vs ++ (ws ++ rest)) ≤ n → (q s).whole vs m → (ms : List S) → Fronts m ws ms → ((n : ℕ) → length (ws ++ rest) ≤ n → length (tokens_behind (run_loop class form q n m (ws ++ rest))) ≤ length rest) → length (tokens_behind (run_loop class form q n s (vs ++ (ws ++ rest)))) ≤ length rest
  unfolding Go
  past_cons n s m [] ws rest le w ms f ih = absurd (let h = (hq s).empty m w in cc)
  past_cons zero s m (v ∷ vs) ws rest le w ms f ih = absurd (omega arith)
  past_cons (suc n) s m (v ∷ vs) [] rest le w ms f ih = past_one n s v vs rest (inl (m, w))
  past_cons (suc n) s m (v ∷ vs) (y ∷ ws) rest le w ms f ih =
      rw (loop_go n s v vs (y ∷ (ws ++ rest)) (inl (m, w)))
      (rw ((hq s).complete (v ∷ vs) (y ∷ (ws ++ rest)) m w (apart_out (class y) form.more form.first ok (loop_begins ms m (y ∷ ws) f)))
      (ih n (omega (arith, length-append vs (y ∷ (ws ++ rest))))))

  past_cut : (n : ℕ) (s : S) (us rest : List T) → length (us ++ rest) ≤ n → (q s).cut us → length (tokens_behind (run_loop class form q n s (us ++ rest))) ≤ length rest
  past_cut n s [] rest le c = takes_left (loop class form q s) rest (run_loop class form q n s rest) (loop_takes n s rest)
  past_cut zero s (u ∷ us) rest le c = absurd (omega arith)
  past_cut (suc n) s (u ∷ us) rest le c = past_one n s u us rest (inr c)

  loop_past : (ms : List S) (s : S) (us rest : List T) (n : ℕ) → length (us ++ rest) ≤ n → Fronts s us ms → length (tokens_behind (run_loop class form q n s (us ++ rest))) ≤ length rest
  unfolding Fronts
  loop_past [] s us rest n le (inl e) = rw e (takes_left (loop class form q s) rest (run_loop class form q n s rest) (loop_takes n s rest))
  loop_past [] s us rest n le (inr c) = past_cut n s us rest le c
  loop_past (m ∷ ms) s us rest n le (vs, ws, e, w, f) =
      let parted = ap (λ (t : List T). t ++ rest) e ∙ append_assoc vs ws rest in
      rw parted (past_cons n s m vs ws rest (rw parted at le) w ms f (λ k h. loop_past ms m ws rest k h f))

  pub reads_loop_at : (s : S) → Reads class (loop class form q s) (loop class form q s).shape
  reads_loop_at s = record {
    takes = λ ts. loop_takes (length ts) s ts;
    complete = λ us rest last w st. loop_complete w.0 s last us rest (length (us ++ rest)) (omega arith) w.1 st;
    past = λ us rest f. (let g = to_fronts s us f in loop_past g.0 s us rest (length (us ++ rest)) (omega arith) g.1);
    begins = λ us f. (let g = to_fronts s us f in loop_begins g.0 s us g.1);
    empty = λ last w. refl;
    none = none_front s;
    closed = λ us vs f. (let g = to_fronts s (us ++ vs) f in loop_closed g.0 s us vs (us ++ vs) refl g.1);
  }

  -- a step takes a token at least
  consumes : (s m : S) (ts rest : List T) → Takes (q s) ts (Done m rest) → length rest < length ts
  consumes s m ts rest ([], e, w) = absurd (let h = (hq s).empty m w in cc)
  consumes s m ts rest (u ∷ us, e, w) = omega (arith, ap length e, length-append us rest)

  go_same : (n k : ℕ) (d : ℕ) (s : S) (ts : List T) (x : Reading T S) → Takes (q s) ts x → length ts ≤ suc d → ((m : S) (rest : List T) → length rest ≤ d → run_loop class form q n m rest ≡ run_loop class form q k m rest) → Go n x ≡ Go k x
  unfolding Go
  go_same n k d s ts (Done m rest) h le ih = let c = consumes s m ts rest h in ih m rest (omega arith)
  go_same n k d s ts (Bad rest) h le ih = refl

  -- more than enough is as good
  fuel : (n k : ℕ) (s : S) (ts : List T) → length ts ≤ n → length ts ≤ k → run_loop class form q n s ts ≡ run_loop class form q k s ts
  unfolding Go
  fuel zero zero s ts h g = refl
  fuel zero (suc k) s [] h g = refl
  fuel zero (suc k) s (t ∷ ts) h g = absurd (omega arith)
  fuel (suc n) zero s [] h g = refl
  fuel (suc n) zero s (t ∷ ts) h g = absurd (omega arith)
  fuel (suc n) (suc k) s [] h g = refl
  fuel (suc n) (suc k) s (t ∷ ts) h g =
      ap (λ (y : Reading T S). cond (among (class t) form.first) y (Done s (t ∷ ts)))
      (go_same n k (length ts) s (t ∷ ts) ((q s).run (t ∷ ts)) ((hq s).takes (t ∷ ts)) (omega arith) (λ m rest le. fuel n k m rest (omega arith) (omega arith)))

  -- the next step and those after it
  pub loop_step_at : (s : S) (ts : List T) → (loop class form q s).run ts ≡ cond (begins class form.first ts) (bind ((q s).run ts) (λ m rest. (loop class form q m).run rest)) (Done s ts)
  loop_step_at s [] = refl
  loop_step_at s (t ∷ ts) = ap (λ (y : Reading T S). cond (among (class t) form.first) y (Done s (t ∷ ts))) (step_at ((q s).run (t ∷ ts)) ((hq s).takes (t ∷ ts)))
    where
      step_at : (x : Reading T S) → Takes (q s) (t ∷ ts) x → bind x (λ m rest. run_loop class form q (length ts) m rest) ≡ bind x (λ m rest. run_loop class form q (length rest) m rest)
      step_at (Done m rest) h = let c = consumes s m (t ∷ ts) rest h in fuel (length ts) (length rest) m rest (omega arith) (omega arith)
      step_at (Bad rest) h = refl

pub reads_loop : {T S : Type 0} (class : T → ℕ) {shape : PhraseShape} {q : S → Row T S} → ((s : S) → Reads class (q s) shape) → apart shape.more shape.first ≡ true → shape.empty ≡ false → (s : S) → Reads class (loop class shape q s) (loop class shape q s).shape
reads_loop class {shape} {q} hq ok some s = reads_loop_at class shape q hq ok some s

-- a loop takes one more step
pub loop_next : {T S : Type 0} (class : T → ℕ) {shape : PhraseShape} {q : S → Row T S} → ((s : S) → Reads class (q s) shape) → apart shape.more shape.first ≡ true → shape.empty ≡ false → (s m : S) (ts rest : List T) → begins class shape.first ts ≡ true → (q s).run ts ≡ Done m rest → (loop class shape q s).run ts ≡ (loop class shape q m).run rest
loop_next class {shape} {q} hq ok some s m ts rest b e = loop_step_at class shape q hq ok some s ts ∙ rw b (rw e refl)

-- the next step is bad
pub loop_bad : {T S : Type 0} (class : T → ℕ) (shape : PhraseShape) (q : S → Row T S) (s : S) (ts rest : List T) → begins class shape.first ts ≡ true → (q s).run ts ≡ Bad rest → (loop class shape q s).run ts ≡ Bad rest
loop_bad class shape q s [] rest b e = absurd cc
loop_bad class shape q s (t ∷ ts) rest b e = rw b (rw e refl)

-- no more steps
pub loop_end : {T S : Type 0} (class : T → ℕ) (shape : PhraseShape) (q : S → Row T S) (s : S) (ts : List T) → begins class shape.first ts ≡ false → (loop class shape q s).run ts ≡ Done s ts
loop_end class shape q s [] b = refl
loop_end class shape q s (t ∷ ts) b = rw b refl
