-- What holds after every turn of a run.
use Rattle.std.proofs.Common.{◌≡◌, ℕ, ◌<◌, ◌≤◌, min, Bool, true, false, cond, ◌||◌, eqb, ltb, leb, List, [], ◌∷◌, length, get_or, take, set, replicate, None, Option, Ok, Err, Result, sym, refl, ap, ◌∙◌, subst, ⊎_elim, arith}
use Rattle.std.proofs.lemmas.List.{length-set, length-replicate, get_or-replicate, get_or-take, get_or-set_same, get_or-set_other}
use Rattle.std.proofs.lemmas.Bool.{cond-true, cond-false, cases_lt, cases_eq, lt-ltb, le-ltb, ltb-false, leb-false, or_parts, or_left, eq-eqb, ne_eqb, both_ways}
use Rattle.synopsis.specs.declared.fault.DecodeFault.{DecodeFault}
use Rattle.synopsis.specs.Kind.{Kind, Laws, overlong}
use Rattle.histories.specs.declared.Call.{Call}
use Rattle.histories.specs.declared.Call.TheVariants.{Generate, Arrive, Send, Deliver, Drop, Read}
use Rattle.histories.specs.declared.Turn.{Turn}
use Rattle.histories.specs.Deeds.{Deed, contributed, sent, delivered, dropped, nothing, reading, frame, deed, History}
use Rattle.histories.specs.Search.{filled, Sound}
use Rattle.histories.specs.Folds.{read_as, contribution_form, node_form, slot_form}
use Rattle.histories.proofs.Folding.{gave_here, gave_else, gave_slot, sent_here, sent_else, delivered_here, delivered_else, dropped_else}
use Rattle.network.specs.declared.fault.NetworkFault.{NetworkFault}
use Rattle.network.specs.declared.slot.Filled.{Filled}
use Rattle.network.specs.Tables.{Table}
use Rattle.network.specs.Faults.{fault_of}
use Rattle.network.specs.Calls.{unless, accepted, ready, opened_network, slot_of, is_filled, slot_start, slot_frame, no_slot}
use Rattle.diffusion.specs.Turns.{Told, done, bytes, refused, refusal, is_accepted, plainly, with_bytes, State, form_of, call_tells, turn_tells, fused, call_leaves, turn_leaves}
use Rattle.diffusion.specs.Owed.{of_decoding, call_owes, owes}
use Rattle.diffusion.proofs.Lying.{length_placed, front_frame, frame_here, frame_else}

-- Refusals

-- two answers that differ only where a test fails are one, if there they are
past_test : {A : Type 0} (b : Bool) (x y z : A) → (b ≡ false → y ≡ z) → cond b x y ≡ cond b x z
past_test true x y z same = refl
past_test false x y z same = same refl

-- a front part suffices exactly where what it was cut to does
front_test : (a b c : ℕ) → c ≤ b → ltb (min a b) c ≡ ltb a c
front_test a b c le = ⊎_elim (λ lt. lt-ltb (min a b) c (omega arith) ∙ sym (lt-ltb a c lt)) (λ ge. le-ltb (min a b) c (omega arith) ∙ sym (le-ltb a c ge)) (cases_lt a c)

-- an accepted answer passed each test before it
passed : (b : Bool) (n : ℕ) (rest : Told) → is_accepted (cond b (refused n None) rest) ≡ true → (b ≡ false) × (is_accepted rest ≡ true)
passed true n rest q = absurd (both_ways false refl q)
passed false n rest q = (refl, q)

-- and one that is given only where a test holds met it
met : (b : Bool) (n : ℕ) (rest : Told) → is_accepted (cond b rest (refused n None)) ≡ true → b ≡ true
met true n rest q = refl
met false n rest q = absurd (both_ways false refl q)

-- what tells of a refusal tells of the tests in their order
module _ {A : Type 0} (told : Result A NetworkFault → Told) (err : (e : NetworkFault) → told (Err e) ≡ refusal e) where
  tells_unless : (b : Bool) (n : ℕ) (rest : Result A NetworkFault) → told (unless b n rest) ≡ cond b (refusal (fault_of n)) (told rest)
  tells_unless true n rest = err (fault_of n)
  tells_unless false n rest = refl

  tells_ready : (k : Kind) (net : Table) (v m : ℕ) (rest : Result A NetworkFault) → overlong k ≡ false → told (ready k net v m rest) ≡ cond (ltb v net.count || ltb m 65536) (refused 2 None) (told rest)
  tells_ready k net v m rest short =
      tells_unless (ltb v net.count || ltb m 65536) 2 (unless (overlong k) 3 rest)
      ∙ ap (λ (r : Result A NetworkFault). cond (ltb v net.count || ltb m 65536) (refused 2 None) (told r)) (cond-false (overlong k) (Err (fault_of 3)) rest short)

plainly_err : (e : NetworkFault) → plainly (Err e) ≡ refusal e
plainly_err e = refl

module _ (k : Kind) (nodes : ℕ) where
  -- what holds after every turn
  pub record Holding (h : History) (st : State k) : Type 0 where
    pub short : overlong k ≡ false
    pub values : nodes ≤ length st.forms
    pub room : 65536 ≤ length st.memory
    pub count : st.net.count ≡ nodes
    pub slots : length st.net.slots ≡ 32
    pub sound : Sound h
    pub nodes_hold : (n : ℕ) → n < nodes → form_of k st n ≡ node_form k h n
    pub table : (s : ℕ) → s < 32 → is_filled (get_or st.net.slots s no_slot) ≡ filled h s
    -- a filled slot has the frame of what it carries
    pub lies : (s : ℕ) → s < 32 → filled h s ≡ true → slot_frame st.memory s (get_or st.net.slots s no_slot) ≡ k.encoding (slot_form k h s)

  -- it holds after OPEN
  pub holding_opened : (st : State k) → overlong k ≡ false → nodes ≤ length st.forms → 65536 ≤ length st.memory → st.net ≡ opened_network nodes → take nodes st.forms ≡ replicate nodes k.none → Holding [] st
  holding_opened st short values room opened empty =
      let free : st.net.slots ≡ replicate 32 None = ap (λ (net : Table). net.slots) opened in
      record {
        short = short;
        values = values;
        room = room;
        count = ap (λ (net : Table). net.count) opened;
        slots = ap length free ∙ length-replicate 32 no_slot;
        sound = tt;
        nodes_hold = λ n lt. sym (get_or-take nodes st.forms n k.none lt) ∙ ap (λ (l : List k.Form). get_or l n k.none) empty ∙ get_or-replicate nodes n k.none k.none lt;
        table = λ s lt. ap (λ (l : List (Option Filled)). is_filled (get_or l s no_slot)) free ∙ ap is_filled (get_or-replicate 32 s no_slot no_slot lt);
        lies = λ s lt e. absurd (both_ways false refl e);
      }

module _ (k : Kind) (laws : Laws k) (nodes : ℕ) (h : History) (st : State k) (on : Holding k nodes h st) where
  -- What a turn tells

  -- a filled slot's frame is read as what it carries
  slot_reads : (s : ℕ) → s < 32 → filled h s ≡ true → k.decoding (slot_frame st.memory s (get_or st.net.slots s no_slot)) ≡ Ok (slot_form k h s)
  slot_reads s lt full = ap k.decoding (on.lies s lt full) ∙ laws.back on.short (slot_form k h s)

  -- also in the front part of the memory that a turn brings
  front_reads : (m s : ℕ) → 65536 ≤ m → m ≤ length st.memory → s < 32 → filled h s ≡ true → k.decoding (slot_frame (take m st.memory) s (get_or st.net.slots s no_slot)) ≡ Ok (slot_form k h s)
  front_reads m s enough le lt full = ap k.decoding (front_frame st.memory m s (get_or st.net.slots s no_slot) lt enough le) ∙ slot_reads s lt full

  -- so many values and bytes are brought
  module _ (values memory : ℕ) where
    abbrev v : ℕ
    v = min values (length st.forms)

    abbrev m : ℕ
    m = min memory (length st.memory)

    -- the first test says the same of the front part as of the numbers brought
    lacking : (ltb v st.net.count || ltb m 65536) ≡ (ltb values nodes || ltb memory 65536)
    lacking =
        ap (λ (c : ℕ). ltb v c || ltb m 65536) on.count
        ∙ ap (λ (b : Bool). b || ltb m 65536) (front_test values (length st.forms) nodes on.values)
        ∙ ap (λ (b : Bool). ltb values nodes || b) (front_test memory (length st.memory) 65536 on.room)

    -- past the first test there is enough
    enough : (ltb values nodes || ltb memory 65536) ≡ false → 65536 ≤ m
    enough e =
        let q = ltb-false memory 65536 (or_parts (ltb values nodes) (ltb memory 65536) e).1 in
        let r = on.room in
        omega arith

    -- the network has as many nodes as it was opened with
    node_test : (n : ℕ) → leb st.net.count n ≡ leb nodes n
    node_test n = ap (λ (c : ℕ). leb c n) on.count

    -- the first test, and then what comes after
    first_tells : {A : Type 0} (told : Result A NetworkFault → Told) → ((e : NetworkFault) → told (Err e) ≡ refusal e) → (rest : Result A NetworkFault) (owed : Told)
        → ((ltb values nodes || ltb memory 65536) ≡ false → told rest ≡ owed) → told (ready k st.net v m rest) ≡ cond (ltb values nodes || ltb memory 65536) (refused 2 None) owed
    first_tells told err rest owed same =
        tells_ready told err k st.net v m rest on.short
        ∙ ap (λ (b : Bool). cond b (refused 2 None) (told rest)) lacking
        ∙ past_test (ltb values nodes || ltb memory 65536) (refused 2 None) (told rest) owed same

    -- the node's test, and then what comes after
    node_tells : {A : Type 0} (told : Result A NetworkFault → Told) → ((e : NetworkFault) → told (Err e) ≡ refusal e) → (n : ℕ) (rest : Result A NetworkFault) (owed : Told)
        → (n < nodes → told rest ≡ owed) → told (unless (leb st.net.count n) 4 rest) ≡ cond (leb nodes n) (refused 4 None) owed
    node_tells told err n rest owed same =
        tells_unless told err (leb st.net.count n) 4 rest
        ∙ ap (λ (b : Bool). cond b (refused 4 None) (told rest)) (node_test n)
        ∙ past_test (leb nodes n) (refused 4 None) (told rest) owed (λ e. same (leb-false nodes n e))

    -- the slot's test, and then what comes after
    slot_tells : (s : ℕ) (rest : Result (Unit {0}) NetworkFault) (owed : Told) → (s < 32 → plainly rest ≡ owed) → plainly (unless (leb 32 s) 5 rest) ≡ cond (leb 32 s) (refused 5 None) owed
    slot_tells s rest owed same = tells_unless plainly plainly_err (leb 32 s) 5 rest ∙ past_test (leb 32 s) (refused 5 None) (plainly rest) owed (λ e. same (leb-false 32 s e))

    -- a frame from outside
    decoding_tells : (r : Result k.Form DecodeFault) → plainly (accepted k r) ≡ of_decoding k nodes r
    decoding_tells (Ok x) = refl
    decoding_tells (Err e) = refl

    -- the slot's entry, and then what comes after
    by_filled : (s : ℕ) → s < 32 → (one two : Result (Unit {0}) NetworkFault) (owed other : Told) → (filled h s ≡ true → plainly one ≡ owed) → plainly two ≡ other
        → plainly (cond (is_filled (get_or st.net.slots s no_slot)) one two) ≡ cond (filled h s) owed other
    by_filled s lt one two owed other full free = ap (λ (b : Bool). plainly (cond b one two)) (on.table s lt) ∙ go (filled h s) full
      where
        go : (b : Bool) → (b ≡ true → plainly one ≡ owed) → plainly (cond b one two) ≡ cond b owed other
        go true same = same refl
        go false same = free

    -- every call tells what the history owes
    pub call_tells_owes : (c : Call) → call_tells k st v m c ≡ cond (ltb values nodes || ltb memory 65536) (refused 2 None) (call_owes k nodes h c)
    call_tells_owes (Generate n r) = first_tells plainly plainly_err _ _ (λ e. node_tells plainly plainly_err n (Ok tt) done (λ lt. refl))
    call_tells_owes (Arrive n f) = first_tells plainly plainly_err _ _ (λ e. node_tells plainly plainly_err n (accepted k (k.decoding f.now)) _ (λ lt. decoding_tells (k.decoding f.now)))
    call_tells_owes (Send n s) =
        first_tells plainly plainly_err _ _
        (λ e. node_tells plainly plainly_err n _ _
        (λ lt. slot_tells s (cond (is_filled (get_or st.net.slots s no_slot)) (Err (fault_of 7)) (Ok tt)) _ (λ ls. by_filled s ls (Err (fault_of 7)) (Ok tt) (refused 7 None) done (λ f. refl) refl)))
    call_tells_owes (Deliver s n) =
        first_tells plainly plainly_err _ _
        (λ e. slot_tells s _ _
        (λ ls. node_tells plainly plainly_err n _ _
        (λ lt. by_filled s ls (accepted k (k.decoding (slot_frame (take m st.memory) s (get_or st.net.slots s no_slot)))) (Err (fault_of 6)) done (refused 6 None)
        (λ full. ap (λ (r : Result k.Form DecodeFault). plainly (accepted k r)) (front_reads m s (enough e) (omega arith) ls full)) refl)))
    call_tells_owes (Drop s) = first_tells plainly plainly_err _ _ (λ e. slot_tells s _ _ (λ ls. by_filled s ls (Ok tt) (Err (fault_of 6)) done (refused 6 None) (λ f. refl) refl))
    call_tells_owes (Read n room) =
        let bs = k.encoding (form_of k st n) in
        first_tells (with_bytes bs) (λ e. refl) _ _
        (λ e. node_tells (with_bytes bs) (λ e. refl) n (unless (ltb room (length bs)) 8 (Ok (length bs))) _
        (λ lt. tells_unless (with_bytes bs) (λ e. refl) (ltb room (length bs)) 8 (Ok (length bs))
        ∙ ap (λ (x : k.Form). cond (ltb room (length (k.encoding x))) (refused 8 None) (bytes (k.encoding x))) (on.nodes_hold n lt)))

  -- a turn tells what the history owes
  pub tells_owes : (t : Turn) → turn_tells k st t ≡ owes k nodes h t
  tells_owes t = call_tells_owes t.values t.bytes t.call

  -- What a turn leaves

  -- a turn that did nothing
  still_holds : Holding k nodes (nothing ∷ h) st
  still_holds = record {
    short = on.short;
    values = on.values;
    room = on.room;
    count = on.count;
    slots = on.slots;
    sound = on.sound;
    nodes_hold = on.nodes_hold;
    table = on.table;
    lies = on.lies;
  }

  -- a turn that joined a form to a node
  fused_holds : (d : Deed) (n : ℕ) (x : k.Form) → n < nodes → Sound (d ∷ h)
      → node_form k (d ∷ h) n ≡ k.join (node_form k h n) x → ((i : ℕ) → (n ≡ i → ⊥) → node_form k (d ∷ h) i ≡ node_form k h i)
      → ((s : ℕ) → filled (d ∷ h) s ≡ filled h s) → ((s : ℕ) → slot_form k (d ∷ h) s ≡ slot_form k h s)
      → Holding k nodes (d ∷ h) (fused k st n x)
  fused_holds d n x lt sound here else same carries =
      let long = on.values in
      let now = k.join (form_of k st n) x in
      record {
        short = on.short;
        values = simp length-set (omega arith);
        room = on.room;
        count = on.count;
        slots = on.slots;
        sound = sound;
        nodes_hold = λ i li.
            ⊎_elim
            (λ e. subst (λ (j : ℕ). get_or (set st.forms n now) j k.none ≡ node_form k (d ∷ h) j) (sym e)
            (get_or-set_same st.forms n now k.none (omega arith) ∙ ap (λ (y : k.Form). k.join y x) (on.nodes_hold n lt) ∙ sym here))
            (λ apart. get_or-set_other st.forms n i now k.none apart ∙ on.nodes_hold i li ∙ sym (else i (λ e. apart (sym e))))
            (cases_eq i n);
        table = λ s ls. on.table s ls ∙ sym (same s);
        lies = λ s ls full. on.lies s ls (sym (same s) ∙ full) ∙ ap k.encoding (sym (carries s));
      }

  -- a turn that sent a node's frame into a free slot
  sent_holds : (n r : ℕ) → n < nodes → r < 32 → filled h r ≡ false → Holding k nodes (sent n r ∷ h) (call_leaves k st (Send n r))
  sent_holds n r lt lr free =
      let bs = k.encoding (form_of k st n) in
      let long = on.room in
      let held = on.slots in
      let most : length bs ≤ 2048 = let a = laws.most on.short (form_of k st n) in let b = ltb-false 2048 k.greatest on.short in omega arith in
      let entry = slot_of n (length bs) in
      let here : get_or (set st.net.slots r entry) r no_slot ≡ entry = get_or-set_same st.net.slots r entry no_slot (omega arith) in
      let else : (s : ℕ) → (s ≡ r → ⊥) → get_or (set st.net.slots r entry) s no_slot ≡ get_or st.net.slots s no_slot = λ s apart. get_or-set_other st.net.slots r s entry no_slot apart in
      let full : filled (sent n r ∷ h) r ≡ true = or_left (eqb r r) (filled h r) (eq-eqb r r refl) in
      let same : (s : ℕ) → (s ≡ r → ⊥) → filled (sent n r ∷ h) s ≡ filled h s = λ s apart. ap (λ (b : Bool). b || filled h s) (ne_eqb r s (λ e. apart (sym e))) in
      let memory = (call_leaves k st (Send n r)).memory in
      record {
        short = on.short;
        values = on.values;
        room = let e = length_placed (slot_start r) st.memory bs (omega arith) in omega arith;
        count = on.count;
        slots = length-set st.net.slots r entry ∙ held;
        sound = (free, on.sound);
        nodes_hold = on.nodes_hold;
        table = λ s ls.
            ⊎_elim
            (λ e. subst (λ (j : ℕ). is_filled (get_or (set st.net.slots r entry) j no_slot) ≡ filled (sent n r ∷ h) j) (sym e) (ap is_filled here ∙ sym full))
            (λ apart. ap is_filled (else s apart) ∙ on.table s ls ∙ sym (same s apart))
            (cases_eq s r);
        lies = λ s ls f.
            ⊎_elim
            (λ e. subst (λ (j : ℕ). slot_frame memory j (get_or (set st.net.slots r entry) j no_slot) ≡ k.encoding (slot_form k (sent n r ∷ h) j)) (sym e)
            (ap (slot_frame memory r) here ∙ frame_here st.memory bs r n lr long most ∙ ap k.encoding (on.nodes_hold n lt ∙ sym (sent_here k h n r))))
            (λ apart. ap (slot_frame memory s) (else s apart)
            ∙ frame_else st.memory bs r s (get_or st.net.slots s no_slot) apart lr long most
            ∙ on.lies s ls (sym (same s apart) ∙ f)
            ∙ ap k.encoding (sym (sent_else k h n r s (λ e. apart (sym e)))))
            (cases_eq s r);
      }

  -- a turn that freed a slot
  dropped_holds : (r : ℕ) → r < 32 → Holding k nodes (dropped r ∷ h) (call_leaves k st (Drop r))
  dropped_holds r lr =
      let held = on.slots in
      let here : get_or (set st.net.slots r None) r no_slot ≡ None = get_or-set_same st.net.slots r None no_slot (omega arith) in
      let else : (s : ℕ) → (s ≡ r → ⊥) → get_or (set st.net.slots r None) s no_slot ≡ get_or st.net.slots s no_slot = λ s apart. get_or-set_other st.net.slots r s None no_slot apart in
      let empty : (s : ℕ) → s ≡ r → filled (dropped r ∷ h) s ≡ false = λ s e. cond-true (eqb r s) false (filled h s) (eq-eqb r s (sym e)) in
      let same : (s : ℕ) → (s ≡ r → ⊥) → filled (dropped r ∷ h) s ≡ filled h s = λ s apart. cond-false (eqb r s) false (filled h s) (ne_eqb r s (λ e. apart (sym e))) in
      record {
        short = on.short;
        values = on.values;
        room = on.room;
        count = on.count;
        slots = length-set st.net.slots r None ∙ held;
        sound = on.sound;
        nodes_hold = on.nodes_hold;
        table = λ s ls.
            ⊎_elim
            (λ e. ap (λ (j : ℕ). is_filled (get_or (set st.net.slots r None) j no_slot)) e ∙ ap is_filled here ∙ sym (empty s e))
            (λ apart. ap is_filled (else s apart) ∙ on.table s ls ∙ sym (same s apart))
            (cases_eq s r);
        lies = λ s ls f.
            ⊎_elim
            (λ e. absurd (both_ways (filled (dropped r ∷ h) s) (empty s e) f))
            (λ apart. ap (slot_frame st.memory s) (else s apart) ∙ on.lies s ls (sym (same s apart) ∙ f) ∙ ap k.encoding (sym (dropped_else k h r s (λ e. apart (sym e)))))
            (cases_eq s r);
      }

  -- a node, and a slot, that passed the test
  node_passed : (n : ℕ) (rest : Told) → is_accepted (cond (leb nodes n) (refused 4 None) rest) ≡ true → (n < nodes) × (is_accepted rest ≡ true)
  node_passed n rest q = let p = passed (leb nodes n) 4 rest q in (leb-false nodes n p.0, p.1)

  slot_passed : (s : ℕ) (rest : Told) → is_accepted (cond (leb 32 s) (refused 5 None) rest) ≡ true → (s < 32) × (is_accepted rest ≡ true)
  slot_passed s rest q = let p = passed (leb 32 s) 5 rest q in (leb-false 32 s p.0, p.1)

  -- an accepted call
  call_holds : (c : Call) → is_accepted (call_owes k nodes h c) ≡ true → Holding k nodes (deed c true ∷ h) (call_leaves k st c)
  call_holds (Generate n r) q =
      let a = node_passed n done q in
      fused_holds (contributed n (reading r)) n (k.single r) a.0 on.sound (gave_here k h n (reading r)) (λ i apart. gave_else k h n i (reading r) apart) (λ s. refl) (λ s. gave_slot k h n (reading r) s)
  call_holds (Arrive n f) q =
      let a = node_passed n _ q in
      let g = frame f.now in
      fused_holds (contributed n g) n (contribution_form k g) a.0 on.sound (gave_here k h n g) (λ i apart. gave_else k h n i g apart) (λ s. refl) (λ s. gave_slot k h n g s)
  call_holds (Send n s) q =
      let a = node_passed n _ q in
      let b = slot_passed s (cond (filled h s) (refused 7 None) done) a.1 in
      let c = passed (filled h s) 7 done b.1 in
      sent_holds n s a.0 b.0 c.0
  call_holds (Deliver s n) q =
      let a = slot_passed s _ q in
      let b = node_passed n (cond (filled h s) done (refused 6 None)) a.1 in
      let full = met (filled h s) 6 done b.1 in
      let made = fused_holds (delivered s n) n (slot_form k h s) b.0 on.sound (delivered_here k laws h s n) (λ i apart. delivered_else k h s n i apart) (λ r. refl) (λ r. refl) in
      subst (λ (r : Result k.Form DecodeFault). Holding k nodes (delivered s n ∷ h) (fused k st n (read_as k r))) (sym (slot_reads s a.0 full)) made
  call_holds (Drop s) q = let a = slot_passed s (cond (filled h s) done (refused 6 None)) q in dropped_holds s a.0
  call_holds (Read n room) q = still_holds

  -- it holds after every turn
  pub turn_holds : (t : Turn) → Holding k nodes (deed t.call (is_accepted (turn_tells k st t)) ∷ h) (turn_leaves k st t)
  turn_holds t = go (is_accepted (turn_tells k st t)) refl
    where
      go : (b : Bool) → is_accepted (turn_tells k st t) ≡ b → Holding k nodes (deed t.call b ∷ h) (cond b (call_leaves k st t.call) st)
      go true q = call_holds t.call (passed (ltb t.values nodes || ltb t.bytes 65536) 2 (call_owes k nodes h t.call) (ap is_accepted (sym (tells_owes t)) ∙ q)).1
      go false q = still_holds
