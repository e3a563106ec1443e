-- Any number of a phrase is read.
use Rattle.std.proofs.Common.{◌≡◌, ℕ, zero, suc, ◌≤◌, ◌<◌, List, [], ◌∷◌, ◌++◌, length, Bool, true, false, ◌⊎◌, inl, inr, refl, sym, ap, subst, ◌∙◌, append_assoc, append-nil, arith, length-append, cond}
use Rattle.ir_terminals.specs.PhraseRows.Row.{Reading, Done, Bad, bind, Row, among, apart, begins, keep_second, many, run_many, Each, separated}
use Rattle.ir_terminals.specs.PhraseRows.Reads.{Stops, Begins, Front, Takes, tokens_behind, Reads}
use Rattle.ir_terminals.proofs.OnPhraseRows.ListParts.{split, nil_parts, apart_out, takes_left, bind_left, stops_left, stops_right}
use Rattle.ir_terminals.proofs.OnPhraseRows.Plain.{mapped_left, reads_nothing}
use Rattle.ir_terminals.proofs.OnPhraseRows.Chain.{reads_both, reads_second}
use Rattle.ir_terminals.proofs.OnPhraseRows.Alt.{reads_alt, apart_nil}

module _ {T A : Type 0} (class : T → ℕ) (p : Row T A) (hp : Reads class p p.shape) (ok : apart p.shape.more p.shape.first ≡ true) (some : p.shape.empty ≡ false) where
  many_takes_rest : (ts us mid : List T) (a : A) (x : Reading T (List A)) → ts ≡ us ++ mid → p.whole us a → Takes (many class p) mid x → Takes (many class p) ts (bind x (λ xs rest. Done (a ∷ xs) rest))
  many_takes_rest ts us mid a (Done xs rest) e w h = (us ++ h.0, e ∙ ap (λ (t : List T). us ++ t) h.1 ∙ sym (append_assoc us h.0 rest), (us, h.0, refl, w, h.2))
  many_takes_rest ts us mid a (Bad rest) e w (vs, d, (xs, es, bs, g, each, c)) = (
    us ++ vs,
    e ∙ ap (λ (t : List T). us ++ t) d ∙ sym (append_assoc us vs rest),
    (a ∷ xs, us ++ es, bs, ap (λ (t : List T). us ++ t) g ∙ sym (append_assoc us es bs), (us, es, refl, w, each), c),
  )

  many_takes_first : (n : ℕ) (ts : List T) (x : Reading T A) → Takes p ts x → ((rest : List T) → Takes (many class p) rest (run_many class p n rest)) → Takes (many class p) ts (bind x (λ a rest. bind (run_many class p n rest) (λ xs rest. Done (a ∷ xs) rest)))
  many_takes_first n ts (Done a rest) h ih = many_takes_rest ts h.0 rest a (run_many class p n rest) h.1 h.2 (ih rest)
  many_takes_first n ts (Bad rest) h ih = (h.0, h.1, ([], [], h.0, refl, refl, h.2))

  many_takes_if : (b : Bool) (ts : List T) (x : Reading T (List A)) → Takes (many class p) ts x → Takes (many class p) ts (cond b x (Done [] ts))
  many_takes_if true ts x h = h
  many_takes_if false ts x h = ([], refl, refl)

  many_takes : (n : ℕ) (ts : List T) → Takes (many class p) ts (run_many class p n ts)
  many_takes zero ts = ([], refl, refl)
  many_takes (suc n) ts = many_takes_if (begins class p.shape.first ts) ts (bind (p.run ts) (λ a rest. bind (run_many class p n rest) (λ xs rest. Done (a ∷ xs) rest))) (many_takes_first n ts (p.run ts) (hp.takes ts) (many_takes n))

  -- whole phrases, and then nothing or a cut one
  Fronts : List T → List A → Type 0
  Fronts us [] = (us ≡ []) ⊎ p.cut us
  Fronts us (a ∷ xs) = (vs : List T) × (ws : List T) × (us ≡ vs ++ ws) × p.whole vs a × Fronts ws xs

  each_fronts : (xs : List A) (us : List T) → Each p.whole us xs → Fronts us xs
  unfolding Fronts
  each_fronts [] us e = inl e
  each_fronts (a ∷ xs) us e = (e.0, e.1, e.2, e.3, each_fronts xs e.1 e.4)

  cut_fronts : (xs : List A) (us vs ws : List T) → us ≡ vs ++ ws → Each p.whole vs xs → p.cut ws → Fronts us xs
  unfolding Fronts
  cut_fronts [] us vs ws e h c = inr (rw e (rw h c))
  cut_fronts (a ∷ xs) us vs ws e h c = (h.0, h.1 ++ ws, rw e (rw h.2 (append_assoc h.0 h.1 ws)), h.3, cut_fronts xs (h.1 ++ ws) h.1 ws refl h.4 c)

  to_fronts : (us : List T) → Front (many class p) us → (xs : List A) × Fronts us xs
  to_fronts us (inl w) = (w.0, each_fronts w.0 us w.1)
  to_fronts us (inr (xs, vs, ws, e, h, c)) = (xs, cut_fronts xs us vs ws e h c)

  cons_front : (vs ws : List T) (a : A) → p.whole vs a → Front (many class p) ws → Front (many class p) (vs ++ ws)
  cons_front vs ws a w (inl (xs, h)) = inl (a ∷ xs, (vs, ws, refl, w, h))
  cons_front vs ws a w (inr (xs, es, bs, e, h, c)) = inr (a ∷ xs, vs ++ es, bs, ap (λ (t : List T). vs ++ t) e ∙ sym (append_assoc vs es bs), (vs, es, refl, w, h), c)

  one_front : (us : List T) → Front p us → Front (many class p) us
  one_front us (inl (a, w)) = subst (λ (t : List T). Front (many class p) t) (append-nil us) (cons_front us [] a w (inl ([], refl)))
  one_front us (inr c) = inr ([], [], us, refl, refl, c)

  many_closed : (xs : List A) (us vs ts : List T) → us ++ vs ≡ ts → Fronts ts xs → Front (many class p) us
  unfolding Fronts
  many_closed [] us vs ts e (inl f) = inl ([], (nil_parts us vs (e ∙ f)).0)
  many_closed [] us vs ts e (inr c) = one_front us (hp.closed us vs (inr (rw e c)))
  many_closed (a ∷ xs) us vs ts e (ys, zs, d, w, f) = elim (split us vs ys zs (e ∙ d)) [
    | inl m ↦ one_front us (hp.closed us m.0 (inl (a, rw m.1 at w)))
    | inr m ↦ rw m.1 (cons_front ys m.0 a w (many_closed xs m.0 vs zs (sym m.2) f))
  ]

  many_begins : (xs : List A) (us : List T) → Fronts us xs → Begins class p.shape.first us
  unfolding Fronts
  many_begins [] us (inl e) = rw e tt
  many_begins [] us (inr c) = hp.begins us (inr c)
  many_begins (a ∷ xs) us (vs, ws, e, w, f) = rw e (begins_first vs ws a w)
    where
      begins_first : (vs ws : List T) (a : A) → p.whole vs a → Begins class p.shape.first (vs ++ ws)
      begins_first [] ws a w = absurd (let h = hp.empty a w in cc)
      begins_first (v ∷ vs) ws a w = hp.begins (v ∷ vs) (inl (a, w))

  many_stop : (n : ℕ) (rest : List T) → Stops class p.shape.first rest → run_many class p n rest ≡ Done [] rest
  many_stop zero rest st = refl
  many_stop (suc n) [] st = refl
  many_stop (suc n) (t ∷ ts) st = rw st refl

  Go : ℕ → Reading T A → Reading T (List A)
  Go n x = bind x (λ a rest. bind (run_many class p n rest) (λ xs rest. Done (a ∷ xs) rest))

  many_go : (n : ℕ) (u : T) (us rest : List T) → Front p (u ∷ us) → run_many class p (suc n) (u ∷ (us ++ rest)) ≡ Go n (p.run (u ∷ (us ++ rest)))
  unfolding Go
  many_go n u us rest f = rw (hp.begins (u ∷ us) f) refl

  stops_next : (xs : List A) (ws rest : List T) → Fronts ws xs → Stops class (p.shape.more ++ p.shape.first) rest → Stops class p.shape.more (ws ++ rest)
  stops_next xs [] rest f st = stops_left class p.shape.more p.shape.first rest st
  stops_next xs (w ∷ ws) rest f st = apart_out (class w) p.shape.more p.shape.first ok (many_begins xs (w ∷ ws) f)

  complete_cons : (n : ℕ) (xs : List A) (vs ws rest : List T) (a : A) → length (vs ++ (ws ++ rest)) ≤ n → p.whole vs a → Stops class p.shape.more (ws ++ rest) → ((n : ℕ) → length (ws ++ rest) ≤ n → run_many class p n (ws ++ rest) ≡ Done xs rest) → run_many class p n (vs ++ (ws ++ rest)) ≡ Done (a ∷ xs) rest
  unfolding Go
  complete_cons n xs [] ws rest a le w st ih = absurd (let h = hp.empty a w in cc)
  complete_cons zero xs (v ∷ vs) ws rest a le w st ih = absurd (omega arith)
  complete_cons (suc n) xs (v ∷ vs) ws rest a le w st ih =
      many_go n v vs (ws ++ rest) (inl (a, w)) ∙ (rw (hp.complete (v ∷ vs) (ws ++ rest) a w st) (rw (ih n (omega (arith, length-append vs (ws ++ rest)))) refl))

  many_complete : (xs : List A) (us rest : List T) (n : ℕ) → length (us ++ rest) ≤ n → Each p.whole us xs → Stops class (p.shape.more ++ p.shape.first) rest → run_many class p n (us ++ rest) ≡ Done xs rest
  many_complete [] us rest n le e st = rw e (many_stop n rest (stops_right class p.shape.more p.shape.first rest st))
  many_complete (a ∷ xs) us rest n le (vs, ws, e, w, each) st =
      let shape = ap (λ (t : List T). t ++ rest) e ∙ append_assoc vs ws rest in
      rw shape (complete_cons n xs vs ws rest a (rw shape at le) w (stops_next xs ws rest (each_fronts xs ws each) st) (λ m h. many_complete xs ws rest m h each st))

  go_left : (n : ℕ) (x : Reading T A) → length (tokens_behind (Go n x)) ≤ length (tokens_behind x)
  unfolding Go
  go_left n x = bind_left x (λ a rest. bind (run_many class p n rest) (λ xs rest. Done (a ∷ xs) rest)) (λ a rest.
      rw (mapped_left (λ (xs : List A). a ∷ xs) (run_many class p n rest)) (takes_left (many class p) rest (run_many class p n rest) (many_takes n rest)))

  past_one : (n : ℕ) (u : T) (us rest : List T) → Front p (u ∷ us) → length (tokens_behind (run_many class p (suc n) (u ∷ (us ++ rest)))) ≤ length rest
  past_one n u us rest f =
      let h = go_left n (p.run (u ∷ (us ++ rest))) in
      let g = hp.past (u ∷ us) rest f in
      rw (many_go n u us rest f) (omega (arith, h, g))

  past_cons : (n : ℕ) (vs ws rest : List T) (a : A) → length (vs ++ (ws ++ rest)) ≤ n → p.whole vs a → (xs : List A) → Fronts ws xs → ((n : ℕ) → length (ws ++ rest) ≤ n → length (tokens_behind (run_many class p n (ws ++ rest))) ≤ length rest) → length (tokens_behind (run_many class p n (vs ++ (ws ++ rest)))) ≤ length rest
  unfolding Go
  past_cons n [] ws rest a le w xs f ih = absurd (let h = hp.empty a w in cc)
  past_cons zero (v ∷ vs) ws rest a le w xs f ih = absurd (omega arith)
  past_cons (suc n) (v ∷ vs) [] rest a le w xs f ih = past_one n v vs rest (inl (a, w))
  past_cons (suc n) (v ∷ vs) (y ∷ ws) rest a le w xs f ih =
      rw (many_go n v vs (y ∷ (ws ++ rest)) (inl (a, w)))
      (rw (hp.complete (v ∷ vs) (y ∷ (ws ++ rest)) a w (apart_out (class y) p.shape.more p.shape.first ok (many_begins xs (y ∷ ws) f)))
      (rw (mapped_left (λ (xs : List A). a ∷ xs) (run_many class p n (y ∷ (ws ++ rest)))) (ih n (omega (arith, length-append vs (y ∷ (ws ++ rest)))))))

  past_cut : (n : ℕ) (us rest : List T) → length (us ++ rest) ≤ n → p.cut us → length (tokens_behind (run_many class p n (us ++ rest))) ≤ length rest
  past_cut n [] rest le c = takes_left (many class p) rest (run_many class p n rest) (many_takes n rest)
  past_cut zero (u ∷ us) rest le c = absurd (omega arith)
  past_cut (suc n) (u ∷ us) rest le c = past_one n u us rest (inr c)

  many_past : (xs : List A) (us rest : List T) (n : ℕ) → length (us ++ rest) ≤ n → Fronts us xs → length (tokens_behind (run_many class p n (us ++ rest))) ≤ length rest
  unfolding Fronts
  many_past [] us rest n le (inl e) = rw e (takes_left (many class p) rest (run_many class p n rest) (many_takes n rest))
  many_past [] us rest n le (inr c) = past_cut n us rest le c
  many_past (a ∷ xs) us rest n le (vs, ws, e, w, f) =
      let shape = ap (λ (t : List T). t ++ rest) e ∙ append_assoc vs ws rest in
      rw shape (past_cons n vs ws rest a (rw shape at le) w xs f (λ m h. many_past xs ws rest m h f))

  pub reads_many_at : Reads class (many class p) (many class p).shape
  reads_many_at = record {
    takes = λ ts. many_takes (length ts) ts;
    complete = λ us rest xs w st. many_complete xs us rest (length (us ++ rest)) (omega arith) w st;
    past = λ us rest f. (let g = to_fronts us f in many_past g.0 us rest (length (us ++ rest)) (omega arith) g.1);
    begins = λ us f. (let g = to_fronts us f in many_begins g.0 us g.1);
    empty = λ xs w. refl;
    none = inl ([], refl);
    closed = λ us vs f. (let g = to_fronts (us ++ vs) f in many_closed g.0 us vs (us ++ vs) refl g.1);
  }

  -- it takes a token at least
  consumes : (ts : List T) (a : A) (rest : List T) → Takes p ts (Done a rest) → length rest < length ts
  consumes ts a rest ([], e, w) = absurd (let h = hp.empty a w in cc)
  consumes ts a rest (u ∷ us, e, w) = omega (arith, ap length e, length-append us rest)

  go_same : (n m : ℕ) (k : ℕ) (ts : List T) (x : Reading T A) → Takes p ts x → length ts ≤ suc k → ((rest : List T) → length rest ≤ k → run_many class p n rest ≡ run_many class p m rest) → Go n x ≡ Go m x
  unfolding Go
  go_same n m k ts (Done a rest) h le ih = let c = consumes ts a rest h in rw (ih rest (omega arith)) refl
  go_same n m k ts (Bad rest) h le ih = refl

  -- more than enough is as good
  fuel : (n m : ℕ) (ts : List T) → length ts ≤ n → length ts ≤ m → run_many class p n ts ≡ run_many class p m ts
  unfolding Go
  fuel zero zero ts h g = refl
  fuel zero (suc m) [] h g = refl
  fuel zero (suc m) (t ∷ ts) h g = absurd (omega arith)
  fuel (suc n) zero [] h g = refl
  fuel (suc n) zero (t ∷ ts) h g = absurd (omega arith)
  fuel (suc n) (suc m) [] h g = refl
  fuel (suc n) (suc m) (t ∷ ts) h g =
      ap (λ (y : Reading T (List A)). cond (among (class t) p.shape.first) y (Done [] (t ∷ ts)))
      (go_same n m (length ts) (t ∷ ts) (p.run (t ∷ ts)) (hp.takes (t ∷ ts)) (omega arith) (λ rest le. fuel n m rest (omega arith) (omega arith)))

  -- the next phrase and those after it
  pub many_step : (ts : List T) → (many class p).run ts ≡ cond (begins class p.shape.first ts) (bind (p.run ts) (λ a rest. bind ((many class p).run rest) (λ xs rest. Done (a ∷ xs) rest))) (Done [] ts)
  many_step [] = refl
  many_step (t ∷ ts) = ap (λ (y : Reading T (List A)). cond (among (class t) p.shape.first) y (Done [] (t ∷ ts))) (step_at (p.run (t ∷ ts)) (hp.takes (t ∷ ts)))
    where
      step_at : (x : Reading T A) → Takes p (t ∷ ts) x → bind x (λ a rest. bind (run_many class p (length ts) rest) (λ xs rest. Done (a ∷ xs) rest)) ≡ bind x (λ a rest. bind (run_many class p (length rest) rest) (λ xs rest. Done (a ∷ xs) rest))
      step_at (Done a rest) h = let c = consumes (t ∷ ts) a rest h in rw (fuel (length ts) (length rest) rest (omega arith) (omega arith)) refl
      step_at (Bad rest) h = refl

pub reads_many : {T A : Type 0} (class : T → ℕ) {p : Row T A} → Reads class p p.shape → apart p.shape.more p.shape.first ≡ true → p.shape.empty ≡ false → Reads class (many class p) (many class p).shape
reads_many class {p} hp ok some = reads_many_at class p hp ok some

pub reads_separated : {T A S : Type 0} (class : T → ℕ) {s : Row T S} {p : Row T A} → Reads class s s.shape → Reads class p p.shape → s.shape.empty ≡ false → p.shape.empty ≡ false → apart s.shape.more p.shape.first ≡ true → apart p.shape.more s.shape.first ≡ true → Reads class (separated class s p) (separated class s p).shape
reads_separated class {s} {p} hs hp se pe sp ps =
    reads_alt class (reads_both class (λ a xs. a ∷ xs) hp (reads_many class (reads_second class hs hp sp) (rw (se, pe) ps) (rw se refl)) (rw se ps)) (reads_nothing class []) (apart_nil (cond p.shape.empty (p.shape.first ++ (many class (keep_second s p)).shape.first) p.shape.first)) (rw pe refl)

-- what was read before, and then this
abbrev pub with_front : {T A : Type 0} → List A → Reading T (List A) → Reading T (List A)
with_front xs r = bind r (λ ys rest. Done (xs ++ ys) rest)

front_more : {T A : Type 0} (xs : List A) (a : A) (r : Reading T (List A)) → with_front xs (bind r (λ ys rest. Done (a ∷ ys) rest)) ≡ with_front (xs ++ (a ∷ [])) r
front_more xs a (Done ys rest) = rw append_assoc refl
front_more xs a (Bad rest) = refl

-- a loop over any number reads one more
pub many_next : {T A : Type 0} (class : T → ℕ) {p : Row T A} → Reads class p p.shape → apart p.shape.more p.shape.first ≡ true → p.shape.empty ≡ false → (xs : List A) (a : A) (ts rest : List T) → begins class p.shape.first ts ≡ true → p.run ts ≡ Done a rest → with_front xs ((many class p).run ts) ≡ with_front (xs ++ (a ∷ [])) ((many class p).run rest)
many_next class {p} hp ok some xs a ts rest b e =
    ap (with_front xs) (many_step class p hp ok some ts ∙ rw b (rw e refl)) ∙ front_more xs a ((many class p).run rest)

-- no more of them
pub many_end : {T A : Type 0} (class : T → ℕ) (p : Row T A) (ts : List T) → begins class p.shape.first ts ≡ false → (many class p).run ts ≡ Done [] ts
many_end class p [] b = refl
many_end class p (t ∷ ts) b = rw b refl

-- one of them is bad
pub many_bad : {T A : Type 0} (class : T → ℕ) (p : Row T A) (ts rest : List T) → begins class p.shape.first ts ≡ true → p.run ts ≡ Bad rest → (many class p).run ts ≡ Bad rest
many_bad class p [] rest b e = absurd cc
many_bad class p (t ∷ ts) rest b e = rw b (rw e refl)

with_none : {T A : Type 0} (r : Reading T (List A)) → r ≡ with_front [] r
with_none (Done xs rest) = refl
with_none (Bad rest) = refl

front_cons : {T A : Type 0} (a : A) (xs : List A) (r : Reading T (List A)) → bind (with_front xs r) (λ ys rest. Done (a ∷ ys) rest) ≡ with_front (a ∷ xs) r
front_cons a xs (Done ys rest) = refl
front_cons a xs (Bad rest) = refl

module _ {T A : Type 0} (class : T → ℕ) {p : Row T A} (hp : Reads class p p.shape) (ok : apart p.shape.more p.shape.first ≡ true) (some : p.shape.empty ≡ false) where
  each_stops : (xs : List A) (us ws : List T) → Each p.whole us xs → Stops class p.shape.more ws → Stops class p.shape.more (us ++ ws)
  each_stops xs [] ws e st = st
  each_stops xs (u ∷ us) ws e st = apart_out (class u) p.shape.more p.shape.first ok ((reads_many class hp ok some).begins (u ∷ us) (inl (xs, e)))

  first_begins : (us ws : List T) (a : A) → p.whole us a → begins class p.shape.first (us ++ ws) ≡ true
  first_begins [] ws a w = absurd (let h = hp.empty a w in cc)
  first_begins (u ∷ us) ws a w = hp.begins (u ∷ us) (inl (a, w))

  -- whole phrases in front of other tokens are read, and then what reading gives for those
  pub many_prefix : (us ws : List T) (xs : List A) → Each p.whole us xs → Stops class p.shape.more ws → (many class p).run (us ++ ws) ≡ with_front xs ((many class p).run ws)
  many_prefix us ws [] e st = rw e (with_none ((many class p).run ws))
  many_prefix us ws (a ∷ xs) (vs, zs, e, w, each) st =
      let shape = ap (λ (t : List T). t ++ ws) e ∙ append_assoc vs zs ws in
      let read = hp.complete vs (zs ++ ws) a w (each_stops xs zs ws each st) in
      let go = λ (a : A) (rest : List T). bind ((many class p).run rest) (λ xs rest. Done (a ∷ xs) rest) in
      ap (many class p).run shape
      ∙ many_step class p hp ok some (vs ++ (zs ++ ws))
      ∙ rw (first_begins vs (zs ++ ws) a w) (ap (λ (x : Reading T A). bind x go) read)
      ∙ ap (λ (x : Reading T (List A)). bind x (λ xs rest. Done (a ∷ xs) rest)) (many_prefix zs ws xs each st)
      ∙ front_cons a xs ((many class p).run ws)

  begins_stops : (ws : List T) → begins class p.shape.first ws ≡ true → Stops class p.shape.more ws
  begins_stops [] b = tt
  begins_stops (t ∷ ts) b = apart_out (class t) p.shape.more p.shape.first ok b

  -- where whole phrases stand in front of a bad one, that one is the bad one of all
  pub many_bad_behind : (us ws rest : List T) (xs : List A) → Each p.whole us xs → begins class p.shape.first ws ≡ true → p.run ws ≡ Bad rest → (many class p).run (us ++ ws) ≡ Bad rest
  many_bad_behind us ws rest xs each b e = many_prefix us ws xs each (begins_stops ws b) ∙ ap (with_front xs) (many_bad class p ws rest b e)

  -- whole phrases, and then a bad one
  BadItem : List T → List T → Type 0
  BadItem ts rest = (us : List T) × (ws : List T) × (xs : List A) × (ts ≡ us ++ ws) × Each p.whole us xs × (begins class p.shape.first ws ≡ true) × (p.run ws ≡ Bad rest)

  cons_bad : (a : A) (x : Reading T (List A)) (rest : List T) → bind x (λ xs rest. Done (a ∷ xs) rest) ≡ Bad rest → x ≡ Bad rest
  cons_bad a (Done xs ts) rest e = absurd cc
  cons_bad a (Bad ts) rest e = e

  bad_item_step : (n : ℕ) (ts rest : List T) (b : Bool) (x : Reading T A) → begins class p.shape.first ts ≡ b → p.run ts ≡ x → Takes p ts x → length ts ≤ suc n → cond b (bind x (λ a rest. bind ((many class p).run rest) (λ xs rest. Done (a ∷ xs) rest))) (Done [] ts) ≡ Bad rest → ((mid : List T) → length mid ≤ n → (many class p).run mid ≡ Bad rest → BadItem mid rest) → BadItem ts rest
  unfolding BadItem
  bad_item_step n ts rest false x b e k le g ih = absurd cc
  bad_item_step n ts rest true (Bad mid) b e k le g ih = ([], ts, [], refl, refl, b, (let d : mid ≡ rest = cc in e ∙ ap Bad d))
  bad_item_step n ts rest true (Done a mid) b e (us, d, w) le g ih =
      let c = consumes class p hp ok some ts a mid (us, d, w) in
      let (vs, ws, xs, f, each, begun, bad) = ih mid (omega arith) (cons_bad a ((many class p).run mid) rest g) in
      (us ++ vs, ws, a ∷ xs, d ∙ ap (λ (t : List T). us ++ t) f ∙ sym (append_assoc us vs ws), (us, vs, refl, w, each), begun, bad)

  bad_item_at : (n : ℕ) (ts rest : List T) → length ts ≤ n → (many class p).run ts ≡ Bad rest → BadItem ts rest
  bad_item_at zero [] rest le e = absurd cc
  bad_item_at zero (t ∷ ts) rest le e = absurd (omega arith)
  bad_item_at (suc n) ts rest le e =
      bad_item_step n ts rest (begins class p.shape.first ts) (p.run ts) refl refl (hp.takes ts) le (sym (many_step class p hp ok some ts) ∙ e) (λ mid h g. bad_item_at n mid rest h g)

  -- where any number is bad, it is whole phrases and then a bad one
  pub many_bad_item : (ts rest : List T) → (many class p).run ts ≡ Bad rest → (us : List T) × (ws : List T) × (xs : List A) × (ts ≡ us ++ ws) × Each p.whole us xs × (begins class p.shape.first ws ≡ true) × (p.run ws ≡ Bad rest)
  unfolding BadItem
  many_bad_item ts rest e = bad_item_at (length ts) ts rest (omega arith) e
