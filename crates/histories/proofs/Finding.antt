-- The search finds the delivered paths and the filled slots, and where sends went only into free slots it misses none.
use Rattle.std.proofs.Common.{◌≡◌, ℕ, suc, ◌<◌, ◌≤◌, true, false, ◌&&◌, eqb, [], ◌∷◌, length, sym, refl, ap, ◌∙◌, subst, ⊎_elim, arith}
use Rattle.std.proofs.lemmas.Bool.{or_cases, or_left, or_right, and_parts, and_from, eqb-true, eqb-false, eq-eqb, ne_eqb, cond-true, cond-false, cases_Bool, cases_lt, both_ways}
use Rattle.histories.specs.Deeds.{Contribution, Deed, contributed, sent, delivered, dropped, nothing, History}
use Rattle.histories.specs.Paths.{Did, newest, before, Undropped, Path, start, hop, Reaches, Filled}
use Rattle.histories.specs.Search.{filled, reaches, carries, Sound}

-- Turns

-- a turn that did something has come
pub did_le : {h : History} {i : ℕ} {d : Deed} → Did h i d → i ≤ length h
did_le newest = omega arith
did_le (before a) = let le = did_le a in omega arith

-- turns are counted from 1
pub did_pos : {h : History} {i : ℕ} {d : Deed} → Did h i d → 0 < i
did_pos newest = omega arith
did_pos (before a) = did_pos a

-- what an older turn did, it did before the newest
older : {e d : Deed} {h : History} {i : ℕ} → Did (e ∷ h) i d → i ≤ length h → Did h i d
older newest le = absurd (omega arith)
older (before a) le = a

the_newest : {e d : Deed} {h : History} {i : ℕ} → Did (e ∷ h) i d → length h < i → e ≡ d
the_newest newest lt = refl
the_newest (before a) lt = let le = did_le a in absurd (omega arith)

-- a turn did one thing
pub did_once : {h : History} {i : ℕ} {d e : Deed} → Did h i d → Did h i e → d ≡ e
did_once newest b = the_newest b (omega arith)
did_once (before a) b = did_once a (older b (did_le a))

none_did : {i : ℕ} {d : Deed} → Did [] i d → ⊥
none_did a = elim a [ ]

-- no drop of slot s after turn k
abbrev Stays : History → ℕ → ℕ → Type 0
Stays h s k = (l : ℕ) → k < l → Did h l (dropped s) → ⊥

stays_down : {e : Deed} {h : History} {s k : ℕ} → Stays (e ∷ h) s k → Stays h s k
stays_down stays l kl a = stays l kl (before a)

-- a drop is older than a newest turn that is none
drop_older : {e : Deed} {h : History} {s l : ℕ} → (e ≡ dropped s → ⊥) → Did (e ∷ h) l (dropped s) → l ≤ length h
drop_older {h = h} {l = l} other a = ⊎_elim (λ lt. absurd (other (the_newest a lt))) (λ le. le) (cases_lt (length h) l)

stays_up : {e : Deed} {h : History} {s k : ℕ} → (e ≡ dropped s → ⊥) → Stays h s k → Stays (e ∷ h) s k
stays_up other stays l kl a = stays l kl (older a (drop_older other a))

-- where nothing drops slot s after an older turn, the newest turn does not
no_drop : {e : Deed} {h : History} {s k : ℕ} → k ≤ length h → Stays (e ∷ h) s k → e ≡ dropped s → ⊥
no_drop {e} {h} le stays q = stays (suc (length h)) (omega arith) (subst (λ (d : Deed). Did (e ∷ h) (suc (length h)) d) q newest)

-- other deeds are no drops
gave_other : {m s : ℕ} {g : Contribution} → contributed m g ≡ dropped s → ⊥
gave_other q = let z : ◌≡◌ {A = ℕ} 0 1 = cc in omega arith

sent_other : {m r s : ℕ} → sent m r ≡ dropped s → ⊥
sent_other q = let z : ◌≡◌ {A = ℕ} 0 1 = cc in omega arith

delivered_other : {r m s : ℕ} → delivered r m ≡ dropped s → ⊥
delivered_other q = let z : ◌≡◌ {A = ℕ} 0 1 = cc in omega arith

dropped_other : (r s : ℕ) → eqb r s ≡ false → dropped r ≡ dropped s → ⊥
dropped_other r s e q = eqb-false r s e (cc)

nothing_other : {s : ℕ} → nothing ≡ dropped s → ⊥
nothing_other q = let z : ◌≡◌ {A = ℕ} 0 1 = cc in omega arith

-- Paths

-- a path ends no earlier than it starts, and its last turn has come
pub path_turns : {h : History} {t n j : ℕ} → Path h t n j → (t ≤ j) × (j ≤ length h)
path_turns (start a) = let le = did_le a in (omega arith, le)
path_turns (hop p ik a kj d u) = let on = path_turns p in let le = did_le d in (omega arith, le)

-- a path starts at a contribution
pub reach_gave : (h : History) {t n j : ℕ} → Path h t n j → (m : ℕ) × (g : Contribution) × Did h t (contributed m g)
reach_gave h (start {n = m} {g = g} a) = (m, g, a)
reach_gave h (hop p ik a kj d u) = reach_gave h p

-- a path is one of a longer history, and, where its last turn has come, of a shorter one
path_up : {e : Deed} {h : History} {t n j : ℕ} → Path h t n j → Path (e ∷ h) t n j
path_up (start a) = start (before a)
path_up (hop p ik a kj d u) = let le = did_le d in hop (path_up p) ik (before a) kj (before d) (λ l kl lj x. u l kl lj (older x (omega arith)))

path_down : {e : Deed} {h : History} {t n j : ℕ} → Path (e ∷ h) t n j → j ≤ length h → Path h t n j
path_down (start a) le = start (older a le)
path_down (hop p ik a kj d u) le = hop (path_down p (omega arith)) ik (older a (omega arith)) kj (older d le) (λ l kl lj x. u l kl lj (before x))

reaches_up : {e : Deed} {h : History} {t n : ℕ} → Reaches h t n → Reaches (e ∷ h) t n
reaches_up f = (f.0, path_up f.1)

-- What the search finds is there

filled_up : {e : Deed} {h : History} {s : ℕ} → (e ≡ dropped s → ⊥) → Filled h s → Filled (e ∷ h) s
filled_up other f = (f.0, f.1, before f.2, stays_up other f.3)

-- a slot that the search calls filled is filled
pub filled_found : (h : History) (s : ℕ) → filled h s ≡ true → Filled h s
filled_found [] s e = absurd (both_ways false refl e)
filled_found (contributed m g ∷ h) s e = filled_up gave_other (filled_found h s e)
filled_found (sent m r ∷ h) s e =
    ⊎_elim
    (λ q. let into : Did (sent m r ∷ h) (suc (length h)) (sent m s) = subst (λ (x : ℕ). Did (sent m r ∷ h) (suc (length h)) (sent m x)) (eqb-true r s q) newest in
    (suc (length h), m, into, λ l kl a. let le = drop_older sent_other a in omega arith))
    (λ q. filled_up sent_other (filled_found h s q))
    (or_cases (eqb r s) (filled h s) e)
filled_found (delivered r m ∷ h) s e = filled_up delivered_other (filled_found h s e)
filled_found (dropped r ∷ h) s e =
    ⊎_elim
    (λ q. absurd (both_ways false refl (sym (cond-true (eqb r s) false (filled h s) q) ∙ e)))
    (λ q. filled_up (dropped_other r s q) (filled_found h s (sym (cond-false (eqb r s) false (filled h s) q) ∙ e)))
    (cases_Bool (eqb r s))
filled_found (nothing ∷ h) s e = filled_up nothing_other (filled_found h s e)

-- slot s carries the contribution of turn t: a path to a node, and a later send from there that stays in the slot
record Carried (h : History) (s t : ℕ) : Type 0 where
  pub sender : ℕ
  pub last : ℕ
  pub turn : ℕ
  pub path : Path h t sender last
  pub later : last < turn
  pub sending : Did h turn (sent sender s)
  pub stays : Stays h s turn

carried_up : {e : Deed} {h : History} {s t : ℕ} → (e ≡ dropped s → ⊥) → Carried h s t → Carried (e ∷ h) s t
carried_up other c = record {
  sender = c.sender;
  last = c.last;
  turn = c.turn;
  path = path_up c.path;
  later = c.later;
  sending = before c.sending;
  stays = stays_up other c.stays;
}

newly_carried : (m r : ℕ) (h : History) (s t : ℕ) → r ≡ s → Reaches h t m → Carried (sent m r ∷ h) s t
newly_carried m r h s t q f =
    let turns = path_turns f.1 in
    record {
      sender = m;
      last = f.0;
      turn = suc (length h);
      path = path_up f.1;
      later = omega arith;
      sending = subst (λ (x : ℕ). Did (sent m r ∷ h) (suc (length h)) (sent m x)) q newest;
      stays = λ l kl a. let le = drop_older sent_other a in omega arith;
    }

newly_given : (m : ℕ) (g : Contribution) (h : History) (n t : ℕ) → m ≡ n → t ≡ suc (length h) → Reaches (contributed m g ∷ h) t n
newly_given m g h n t q z =
    let made : Reaches (contributed m g ∷ h) (suc (length h)) m = (suc (length h), start newest) in
    let there : Reaches (contributed m g ∷ h) (suc (length h)) n = subst (λ (x : ℕ). Reaches (contributed m g ∷ h) (suc (length h)) x) q made in
    subst (λ (x : ℕ). Reaches (contributed m g ∷ h) x n) (sym z) there

newly_delivered : (r m : ℕ) (h : History) (n t : ℕ) → m ≡ n → Carried h r t → Reaches (delivered r m ∷ h) t n
newly_delivered r m h n t q c =
    let le = did_le c.sending in
    let kept : Undropped (delivered r m ∷ h) r c.turn (suc (length h)) = λ l kl lj x. c.stays l kl (older x (omega arith)) in
    let there : Reaches (delivered r m ∷ h) t m = (suc (length h), hop (path_up c.path) c.later (before c.sending) (omega arith) newest kept) in
    subst (λ (x : ℕ). Reaches (delivered r m ∷ h) t x) q there

mutual
  -- where the search says that a contribution has reached a node, it has a path there
  pub found : (h : History) (n t : ℕ) → reaches h n t ≡ true → Reaches h t n
  found [] n t e = absurd (both_ways false refl e)
  found (contributed m g ∷ h) n t e =
      ⊎_elim
      (λ a. let q = and_parts (eqb m n) (eqb t (suc (length h))) a in newly_given m g h n t (eqb-true m n q.0) (eqb-true t (suc (length h)) q.1))
      (λ b. reaches_up (found h n t b))
      (or_cases (eqb m n && eqb t (suc (length h))) (reaches h n t) e)
  found (sent m r ∷ h) n t e = reaches_up (found h n t e)
  found (delivered r m ∷ h) n t e =
      ⊎_elim
      (λ a. let q = and_parts (eqb m n) (carries h r t) a in newly_delivered r m h n t (eqb-true m n q.0) (carried_found h r t q.1))
      (λ b. reaches_up (found h n t b))
      (or_cases (eqb m n && carries h r t) (reaches h n t) e)
  found (dropped r ∷ h) n t e = reaches_up (found h n t e)
  found (nothing ∷ h) n t e = reaches_up (found h n t e)

  carried_found : (h : History) (s t : ℕ) → carries h s t ≡ true → Carried h s t
  carried_found [] s t e = absurd (both_ways false refl e)
  carried_found (contributed m g ∷ h) s t e = carried_up gave_other (carried_found h s t e)
  carried_found (sent m r ∷ h) s t e =
      ⊎_elim
      (λ q. newly_carried m r h s t (eqb-true r s q) (found h m t (sym (cond-true (eqb r s) (reaches h m t) (carries h s t) q) ∙ e)))
      (λ q. carried_up sent_other (carried_found h s t (sym (cond-false (eqb r s) (reaches h m t) (carries h s t) q) ∙ e)))
      (cases_Bool (eqb r s))
  carried_found (delivered r m ∷ h) s t e = carried_up delivered_other (carried_found h s t e)
  carried_found (dropped r ∷ h) s t e =
      ⊎_elim
      (λ q. absurd (both_ways false refl (sym (cond-true (eqb r s) false (carries h s t) q) ∙ e)))
      (λ q. carried_up (dropped_other r s q) (carried_found h s t (sym (cond-false (eqb r s) false (carries h s t) q) ∙ e)))
      (cases_Bool (eqb r s))
  carried_found (nothing ∷ h) s t e = carried_up nothing_other (carried_found h s t e)

-- What is there the search finds

still_filled : (e : Deed) (h : History) (s : ℕ) → (e ≡ dropped s → ⊥) → filled h s ≡ true → filled (e ∷ h) s ≡ true
still_filled (contributed m g) h s other f = f
still_filled (sent m r) h s other f = or_right (eqb r s) (filled h s) f
still_filled (delivered r m) h s other f = f
still_filled (dropped r) h s other f = cond-false (eqb r s) false (filled h s) (ne_eqb r s (λ q. other (ap dropped q))) ∙ f
still_filled nothing h s other f = f

sent_stays : {h : History} {m s k : ℕ} → Did h k (sent m s) → Stays h s k → filled h s ≡ true
sent_stays {s = s} (newest {h = h}) stays = or_left (eqb s s) (filled h s) (eq-eqb s s refl)
sent_stays {s = s} (before {h = h} {e = e} a) stays = still_filled e h s (no_drop (did_le a) stays) (sent_stays a (stays_down stays))

-- the search calls every filled slot filled
pub filled_complete : (h : History) (s : ℕ) → Filled h s → filled h s ≡ true
filled_complete h s f = sent_stays f.2 f.3

sound_down : (e : Deed) (h : History) → Sound (e ∷ h) → Sound h
sound_down (contributed m g) h ok = ok
sound_down (sent m r) h ok = ok.1
sound_down (delivered r m) h ok = ok
sound_down (dropped r) h ok = ok
sound_down nothing h ok = ok

still_reaches : (e : Deed) (h : History) (n t : ℕ) → reaches h n t ≡ true → reaches (e ∷ h) n t ≡ true
still_reaches (contributed m g) h n t f = or_right (eqb m n && eqb t (suc (length h))) (reaches h n t) f
still_reaches (sent m r) h n t f = f
still_reaches (delivered r m) h n t f = or_right (eqb m n && carries h r t) (reaches h n t) f
still_reaches (dropped r) h n t f = f
still_reaches nothing h n t f = f

-- a filled slot carries on: no sound send goes into it
still_carries : (e : Deed) (h : History) (s t : ℕ) → Sound (e ∷ h) → filled h s ≡ true → (e ≡ dropped s → ⊥) → carries h s t ≡ true → carries (e ∷ h) s t ≡ true
still_carries (contributed m g) h s t ok full other f = f
still_carries (sent m r) h s t ok full other f =
    let apart : r ≡ s → ⊥ = λ q. both_ways (filled h r) ok.0 (ap (filled h) q ∙ full) in
    cond-false (eqb r s) (reaches h m t) (carries h s t) (ne_eqb r s apart) ∙ f
still_carries (delivered r m) h s t ok full other f = f
still_carries (dropped r) h s t ok full other f = cond-false (eqb r s) false (carries h s t) (ne_eqb r s (λ q. other (ap dropped q))) ∙ f
still_carries nothing h s t ok full other f = f

newest_gave : {e : Deed} {h : History} {n t : ℕ} {g : Contribution} → Did (e ∷ h) t (contributed n g) → length h < t → reaches (e ∷ h) n t ≡ true
newest_gave {n = n} (newest {h = h}) lt =
    let t = suc (length h) in
    or_left (eqb n n && eqb t t) (reaches h n t) (and_from (eqb n n) (eqb t t) (eq-eqb n n refl) (eq-eqb t t refl))
newest_gave (before a) lt = let le = did_le a in absurd (omega arith)

newest_delivered : {e : Deed} {h : History} {s n j : ℕ} (t : ℕ) → Did (e ∷ h) j (delivered s n) → length h < j → carries h s t ≡ true → reaches (e ∷ h) n t ≡ true
newest_delivered {s = s} {n = n} t (newest {h = h}) lt f = or_left (eqb n n && carries h s t) (reaches h n t) (and_from (eqb n n) (carries h s t) (eq-eqb n n refl) f)
newest_delivered t (before a) lt f = let le = did_le a in absurd (omega arith)

newest_sent : {e : Deed} {h : History} {m s k : ℕ} (t : ℕ) → Did (e ∷ h) k (sent m s) → length h < k → reaches h m t ≡ true → carries (e ∷ h) s t ≡ true
newest_sent {m = m} {s = s} t (newest {h = h}) lt f = cond-true (eqb s s) (reaches h m t) (carries h s t) (eq-eqb s s refl) ∙ f
newest_sent t (before a) lt f = let le = did_le a in absurd (omega arith)

mutual
  path_complete : (h : History) {t n j : ℕ} → Sound h → Path h t n j → reaches h n t ≡ true
  path_complete [] ok (start a) = absurd (none_did a)
  path_complete [] ok (hop p ik a kj d u) = absurd (none_did d)
  path_complete (e ∷ h) {t} {n} ok (start a) =
      ⊎_elim
      (λ lt. newest_gave a lt)
      (λ le. still_reaches e h n t (path_complete h (sound_down e h ok) (start (older a le))))
      (cases_lt (length h) t)
  path_complete (e ∷ h) {t} {n} {j} ok (hop {s = s} p ik a kj d u) =
      let top = did_le d in
      ⊎_elim
      (λ lt. newest_delivered t d lt (carried_complete h s (sound_down e h ok) (path_down p (omega arith)) ik (older a (omega arith)) (λ l kl x. let le = did_le x in u l kl (omega arith) (before x))))
      (λ le. still_reaches e h n t (path_complete h (sound_down e h ok) (path_down (hop p ik a kj d u) le)))
      (cases_lt (length h) j)

  carried_complete : (h : History) {t m i k : ℕ} (s : ℕ) → Sound h → Path h t m i → i < k → Did h k (sent m s) → Stays h s k → carries h s t ≡ true
  carried_complete [] s ok p ik a stays = absurd (none_did a)
  carried_complete (e ∷ h) {t} {m} {i} {k} s ok p ik a stays =
      let top = did_le a in
      let on = sound_down e h ok in
      ⊎_elim
      (λ lt. newest_sent t a lt (path_complete h on (path_down p (omega arith))))
      (λ le. let down = stays_down stays in
      still_carries e h s t ok (sent_stays (older a le) down) (no_drop le stays)
      (carried_complete h s on (path_down p (omega arith)) ik (older a le) down))
      (cases_lt (length h) k)

-- where sends went only into free slots, the search finds every path
pub complete : (h : History) (n t : ℕ) → Sound h → Reaches h t n → reaches h n t ≡ true
complete h n t ok f = path_complete h ok f.1
