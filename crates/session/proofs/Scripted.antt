-- The laws of scripts.
use Rattle.std.proofs.Common.{◌≡◌, ℕ, suc, ◌+◌, ◌≤◌, Bool, true, false, ◌||◌, cond, List, [], ◌∷◌, ◌++◌, length, take, drop, get_or, None, Some, Ok, Err, Result, ltb, leb, refl, sym, ap, subst, ◌∙◌, arith, append_assoc}
use Rattle.std.specs.List.{remove}
use Rattle.std.proofs.lemmas.Bool.{cond-false, le-ltb}
use Rattle.std.proofs.lemmas.List.{take-append-drop}
use Rattle.synopsis.specs.Kind.{Kind, Laws}
use Rattle.bitmaps.specs.Forms.{bitmaps_laws}
use Rattle.least.specs.Forms.{least_laws}
use Rattle.sample.specs.Forms.{sample_laws}
use Rattle.layers.specs.PairsLemmas.{pair_laws}
use Rattle.bitmaps.specs.Bitmaps.{bitmaps_kind}
use Rattle.least.specs.Least.{least_kind}
use Rattle.sample.specs.Sample.{sample_kind}
use Rattle.layers.specs.Pairs.{pair_kind}
use Rattle.histories.specs.declared.Call.{Call}
use Rattle.histories.specs.declared.Call.TheVariants.{Generate, Arrive, Send, Deliver, Drop, Read}
use Rattle.histories.specs.Deeds.{Contribution, deed_of, History}
use Rattle.histories.specs.Search.{filled, Sound}
use Rattle.histories.specs.Folds.{node_form, Came, IsFold}
use Rattle.histories.proofs.Finding.{found, complete, filled_found, filled_complete}
use Rattle.histories.proofs.Folding.{arranged_is, same_contributions}
use Rattle.histories.proofs.Exactly.{search_folds}
use Rattle.diffusion.specs.Turns.{Told, done, bytes, is_accepted}
use Rattle.diffusion.specs.Owed.{owes, refused_if}
use Rattle.diffusion.proofs.Promising.{read_owed, unrefused}
use Rattle.script.specs.declared.fault.LineFault.{LineFault}
use Rattle.script.specs.declared.ask.KindLetter.{KindLetter}
use Rattle.script.specs.declared.ask.KindLetter.TheVariants as letter
use Rattle.script.specs.declared.ask.Ask.{Ask}
use Rattle.script.specs.declared.ask.Ask.TheVariants as ask
use Rattle.script.specs.Asking.{asked}
use Rattle.script.specs.Lines.{lines}
use Rattle.session.specs.Printed.{line_text, printed_from, printed}
use Rattle.session.specs.Standing.{Standing, closed, opened, kind_of_letter, page_of_letter, stage_of, ask_owes, ask_leaves, line_owes, line_leaves, answers, stands}
use Rattle.session.specs.Owing.{Page, whole, usage_tells, opens}
use Rattle.session.specs.Scripts.{ReadGives, PageGives, PathLaws, ScriptLaws}

-- a refused line leaves a script where it stands
stays : (st : Standing) (a : Result Ask LineFault) → is_accepted (ask_owes st a) ≡ false → ask_leaves st a ≡ st
stays closed (Err e) r = refl
stays closed (Ok (ask.Open l n)) r = cond-false (is_accepted (opens (kind_of_letter l) n)) _ _ r
stays closed (Ok (ask.Call c)) r = refl
stays closed (Ok (ask.Usage n)) r = refl
stays (opened l nodes h) (Err e) r = refl
stays (opened l nodes h) (Ok (ask.Open m n)) r = refl
stays (opened l nodes h) (Ok (ask.Call c)) r = ap (opened l nodes) (cond-false (is_accepted (owes (kind_of_letter l) nodes h (whole c))) _ _ r)
stays (opened l nodes h) (Ok (ask.Usage n)) r = refl

taken_out : (st : Standing) (before : List (List ℕ)) (line : List ℕ) (after : List (List ℕ)) → is_accepted (get_or (answers st (before ++ line ∷ after)) (length before) done) ≡ false → answers st (before ++ after) ≡ remove (answers st (before ++ line ∷ after)) (length before)
taken_out st [] line after r = ap (λ (s : Standing). answers s after) (sym (stays st (asked (stage_of st) line) r))
taken_out st (b ∷ before) line after r = ap (λ (ws : List Told). line_owes st b ∷ ws) (taken_out (line_leaves st b) before line after r)

each : (st : Standing) (ls : List (List ℕ)) → length (answers st ls) ≡ length ls
each st [] = refl
each st (l ∷ ls) = ap suc (each (line_leaves st l) ls)

fronts : (st : Standing) (ls more : List (List ℕ)) → take (length ls) (answers st (ls ++ more)) ≡ answers st ls
fronts st [] more = refl
fronts st (l ∷ ls) more = ap (λ (ws : List Told). line_owes st l ∷ ws) (fronts (line_leaves st l) ls more)

-- As bytes

printed-append : (n : ℕ) (xs ys : List Told) → printed_from n (xs ++ ys) ≡ printed_from n xs ++ printed_from (n + length xs) ys
printed-append n [] ys = ap (λ (m : ℕ). printed_from m ys) (let e : n ≡ n + 0 = omega arith in e)
printed-append n (x ∷ xs) ys =
    ap (λ (l : List ℕ). line_text n x ++ l) (printed-append (n + 1) xs ys ∙ ap (λ (m : ℕ). printed_from (n + 1) xs ++ printed_from m ys) (let e : n + 1 + length xs ≡ n + suc (length xs) = omega arith in e))
    ∙ sym (append_assoc (line_text n x) (printed_from (n + 1) xs) (printed_from (n + suc (length xs)) ys))

numbered : (input : List ℕ) → length input ≤ 65536 → printed input ≡ printed_from 1 (answers closed (lines input))
numbered input le = cond-false (ltb 65536 (length input)) _ _ (le-ltb 65536 (length input) le)

front_bytes : (input longer : List ℕ) (more : List (List ℕ)) → lines longer ≡ lines input ++ more → length longer ≤ 65536 → length input ≤ 65536 → (rest : List ℕ) × (printed longer ≡ printed input ++ rest)
front_bytes input longer more e le le' =
    let ls = lines input in
    let all = answers closed (ls ++ more) in (
      printed_from (1 + length (answers closed ls)) (drop (length ls) all),
      numbered longer le
          ∙ ap (λ (l : List (List ℕ)). printed_from 1 (answers closed l)) e
          ∙ ap (printed_from 1) (sym (take-append-drop (length ls) all) ∙ ap (λ (l : List Told). l ++ drop (length ls) all) (fronts closed ls more))
          ∙ printed-append 1 (answers closed ls) (drop (length ls) all)
          ∙ ap (λ (l : List ℕ). l ++ printed_from (1 + length (answers closed ls)) (drop (length ls) all)) (sym (numbered input le')),
    )

-- Equal sets of contributions

letter_laws : (l : KindLetter) → Laws (kind_of_letter l)
letter_laws letter.Bitmaps = bitmaps_laws
letter_laws letter.LeastValues = least_laws
letter_laws letter.Sample = sample_laws
letter_laws letter.Pile = pair_laws bitmaps_kind (pair_kind least_kind sample_kind) bitmaps_laws (pair_laws least_kind sample_kind least_laws sample_laws)

unless_refused : (b : Bool) (number : ℕ) (w : Told) → is_accepted (refused_if b number w) ≡ true → (b ≡ false) × (is_accepted w ≡ true)
unless_refused true number w p = absurd (cc)
unless_refused false number w p = (refl, p)

-- a slot that is sent into was free
sound_deed : (k : Kind) (nodes : ℕ) (h : History) (c : Call) → Sound h → is_accepted (owes k nodes h (whole c)) ≡ true → Sound (deed_of c ∷ h)
sound_deed k nodes h (Generate n r) ok p = ok
sound_deed k nodes h (Arrive n f) ok p = ok
sound_deed k nodes h (Send n s) ok p =
    let a = unless_refused (ltb 16 nodes || ltb 65536 65536) 2 _ p in
    let b = unless_refused (leb nodes n) 4 _ a.1 in
    let d = unless_refused (leb 32 s) 5 _ b.1 in
    ((unless_refused (filled h s) 7 done d.1).0, ok)
sound_deed k nodes h (Deliver s n) ok p = ok
sound_deed k nodes h (Drop s) ok p = ok
sound_deed k nodes h (Read n room) ok p = ok

sound_by : (k : Kind) (nodes : ℕ) (h : History) (c : Call) → Sound h → (b : Bool) → is_accepted (owes k nodes h (whole c)) ≡ b → Sound (cond b (deed_of c ∷ h) h)
sound_by k nodes h c ok true e = sound_deed k nodes h c ok e
sound_by k nodes h c ok false e = ok

abbrev SoundAt : Standing → Type 0
SoundAt closed = Unit {0}
SoundAt (opened l nodes h) = Sound h

sound_open : (b : Bool) (l : KindLetter) (n : ℕ) → SoundAt (cond b (opened l n []) closed)
sound_open true l n = tt
sound_open false l n = tt

sound_line : (st : Standing) (a : Result Ask LineFault) → SoundAt st → SoundAt (ask_leaves st a)
sound_line closed (Err e) ok = tt
sound_line closed (Ok (ask.Open l n)) ok = sound_open (is_accepted (opens (kind_of_letter l) n)) l n
sound_line closed (Ok (ask.Call c)) ok = tt
sound_line closed (Ok (ask.Usage n)) ok = tt
sound_line (opened l nodes h) (Err e) ok = ok
sound_line (opened l nodes h) (Ok (ask.Open m n)) ok = ok
sound_line (opened l nodes h) (Ok (ask.Call c)) ok = sound_by (kind_of_letter l) nodes h c ok (is_accepted (owes (kind_of_letter l) nodes h (whole c))) refl
sound_line (opened l nodes h) (Ok (ask.Usage n)) ok = ok

sound_stands : (st : Standing) (ls : List (List ℕ)) → SoundAt st → SoundAt (stands st ls)
sound_stands st [] ok = ok
sound_stands st (line ∷ more) ok = sound_stands (line_leaves st line) more (sound_line st (asked (stage_of st) line) ok)

-- what a read of a node gives there
read_gives : (l : KindLetter) (nodes : ℕ) (h : History) (n : ℕ) (bs : List ℕ) → ReadGives (opened l nodes h) n bs → bs ≡ (kind_of_letter l).encoding (node_form (kind_of_letter l) h n)
read_gives l nodes h n bs r =
    let line = r.0 in
    let room = r.1 in
    read_owed (kind_of_letter l) nodes h (whole (Read n room)) n room bs refl (sym (ap (ask_owes (opened l nodes h)) r.2) ∙ r.3)

-- the page that a line is owed is that of the node's form
page_owed : (k : Kind) (page : Page) (nodes : ℕ) (forms : ℕ → k.Form) (n : ℕ) (bs : List ℕ) → usage_tells k page nodes forms n ≡ bytes bs → (page_of : List ℕ → List ℕ) × (page ≡ Some page_of) × (bs ≡ page_of (k.encoding (forms n)))
page_owed k None nodes forms n bs e = absurd (cc)
page_owed k (Some page_of) nodes forms n bs e =
    let xs = page_of (k.encoding (forms n)) in
    let same : bytes xs ≡ bytes bs = unrefused (leb nodes n) 4 (bytes xs) bs e in (page_of, refl, cc)

page_gives : (l : KindLetter) (nodes : ℕ) (h : History) (n : ℕ) (bs : List ℕ) → PageGives (opened l nodes h) n bs → (page_of : List ℕ → List ℕ) × (page_of_letter l ≡ Some page_of) × (bs ≡ page_of ((kind_of_letter l).encoding (node_form (kind_of_letter l) h n)))
page_gives l nodes h n bs g =
    page_owed (kind_of_letter l) (page_of_letter l) nodes (node_form (kind_of_letter l) h) n bs (sym (ap (ask_owes (opened l nodes h)) g.1) ∙ g.2)

-- what is read there, by paths
path_laws : (l : KindLetter) (nodes : ℕ) (h : History) → Sound h → PathLaws (kind_of_letter l) l nodes h
path_laws l nodes h ok =
    let k = kind_of_letter l in
    let folds : (n : ℕ) → IsFold k h n (node_form k h n) = λ n. search_folds k h n (λ t. found h n t) (λ t. complete h n t ok) h in
    record {
      found = found h;
      complete = λ n t. complete h n t ok;
      sent_into = filled_found h;
      lying = filled_complete h;
      holds = folds;
      reads = λ n bs r. (node_form k h n, folds n, read_gives l nodes h n bs r);
      pages = λ n bs g. (node_form k h n, folds n, page_gives l nodes h n bs g);
      arranged = λ n x a bs r. read_gives l nodes h n bs r ∙ ap k.encoding (sym (arranged_is k (letter_laws l) h n (found h) (λ i t. complete h i t ok) x a));
    }

agree : (script script' : List (List ℕ)) (l : KindLetter) (nodes nodes' : ℕ) (h h' : History) → stands closed script ≡ opened l nodes h → stands closed script' ≡ opened l nodes' h'
    → (n n' : ℕ) → ((g : Contribution) → Came h n g → Came h' n' g) → ((g : Contribution) → Came h' n' g → Came h n g)
    → (bs bs' : List ℕ) → ReadGives (opened l nodes h) n bs → ReadGives (opened l nodes' h') n' bs' → bs ≡ bs'
agree script script' l nodes nodes' h h' e e' n n' there back bs bs' r r' =
    let k = kind_of_letter l in
    let ok : Sound h = subst SoundAt e (sound_stands closed script tt) in
    let ok' : Sound h' = subst SoundAt e' (sound_stands closed script' tt) in
    read_gives l nodes h n bs r
    ∙ ap k.encoding (same_contributions k (letter_laws l) h h' n n' (found h) (λ m t p. complete h m t ok p) (found h') (λ m t p. complete h' m t ok' p) there back)
    ∙ sym (read_gives l nodes' h' n' bs' r')

pub script_laws : ScriptLaws
script_laws = record {
  numbered = numbered;
  each = each closed;
  fronts = fronts closed;
  front_bytes = front_bytes;
  taken_out = taken_out closed;
  paths = λ script l nodes h e. path_laws l nodes h (subst SoundAt e (sound_stands closed script tt));
  agree = agree;
}
