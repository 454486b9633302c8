-- The lives of the jobs, over every list of events.
use Rattle.std.proofs.Common.{◌≡◌, ℕ, zero, suc, ◌+◌, ◌-◌, ◌%◌, ◌<◌, ◌≤◌, ◌≢◌, ◌==◌, ◌⊎◌, ⊎_elim, Bool, true, false}
use Rattle.std.proofs.Common.{cond, List, [], ◌∷◌, ◌++◌, length, set, sym, refl, ap, ◌∙◌, subst, arith, append_assoc}
use Rattle.std.proofs.Common.{append-nil, nat_lt, ltb, eq-eqb, ne_eqb}
use Rattle.std.specs.List.{range_with_len}
use mathlib.Core.Option.{some, none, some-ne-none, some-injective}
use mathlib.Core.Option as maybe
use mathlib.Core.Logic.{dite}
use native.Mathlib.Decide.{ℕ_discrete}
use lib.ListN.{get_elem?}
use Rattle.lr_gatecore.specs.declared.event.Event.{Event}
use Rattle.lr_gatecore.specs.declared.event.Event.TheVariants.{Put, Claim, Finish, Take, Stop}
use Rattle.lr_gatecore.specs.declared.ring_size.RingSize.{RingSize}
use Rattle.lr_gatecore.specs.declared.stage.Stage.{Stage}
use Rattle.lr_gatecore.specs.declared.stage.Stage.TheVariants.{Ready, Busy, Done}
use Rattle.lr_gatecore.specs.Machine.{Machine, empty_machine, Entry, HasStage, Moves, EventsLead}
use Rattle.lr_gatecore.specs.Story.{log_entry, taken_jobs, job_taken_by, is_about, life_of, IsWholeLife}
use Rattle.lr_gatecore.proofs.Lists.{at_above, at_length, set_here, set_else, snoc_else, at_last}

-- the end of the life of a job that is done, where the first t were taken
abbrev taken_events : ℕ → ℕ → List Event
taken_events t i = cond (ltb i t) (Take ∷ []) []

-- what has happened to a job of this stage
abbrev Lived : RingSize → ℕ → ℕ → maybe.Option Stage → List Event → Type 0
Lived size t i none es = es ≡ []
Lived size t i (some Ready) es = es ≡ Put ∷ []
Lived size t i (some (Busy w)) es = es ≡ Put ∷ Claim w (i % size.cells) ∷ []
Lived size t i (some Done) es = (w : ℕ) × (es ≡ Put ∷ Claim w (i % size.cells) ∷ Finish w ∷ taken_events t i)

record Story (size : RingSize) (m : Machine) (log : List Entry) : Type 0 where
  pub takes : taken_jobs log ≡ range_with_len 0 m.taken
  pub past : (i : ℕ) → i < m.taken → get_elem? m.stages i ≡ some Done
  pub each : (i : ℕ) → Lived size m.taken i (get_elem? m.stages i) (life_of i log)

one_more : {A : Type 0} (b : Bool) (a : A) (old new more : List A) → new ≡ old ++ more
    → cond b (a ∷ new) new ≡ cond b (a ∷ old) old ++ more
one_more true a old new more e = ap (λ xs. a ∷ xs) e
one_more false a old new more e = e

life_end : (i : ℕ) (log : List Entry) (e : Event) (job : ℕ)
    → life_of i (log ++ log_entry e job ∷ []) ≡ life_of i log ++ cond (is_about e job i) (e ∷ []) []
life_end i [] e job = refl
life_end i (x ∷ xs) e job =
    one_more (is_about x.event x.job i) x.event (life_of i xs) (life_of i (xs ++ log_entry e job ∷ []))
    (cond (is_about e job i) (e ∷ []) []) (life_end i xs e job)

taken_end : (log : List Entry) (e : Event) (job : ℕ)
    → taken_jobs (log ++ log_entry e job ∷ []) ≡ taken_jobs log ++ job_taken_by e job
taken_end [] e job = append-nil (job_taken_by e job)
taken_end (x ∷ xs) e job = ap (λ jobs. job_taken_by x.event x.job ++ jobs) (taken_end xs e job)
    ∙ sym (append_assoc (job_taken_by x.event x.job) (taken_jobs xs) (job_taken_by e job))

range_end : (a n : ℕ) → range_with_len a (suc n) ≡ range_with_len a n ++ (a + n) ∷ []
range_end a zero = ap (λ z. z ∷ []) (let e : a ≡ a + 0 = omega arith in e)
range_end a (suc n) =
    ap (λ xs. a ∷ xs) (range_end (a + 1) n ∙ ap (λ z. range_with_len (a + 1) n ++ z ∷ [])
    (let e : a + 1 + n ≡ a + suc n = omega arith in e))

-- the life of another job is as before
apart : (i : ℕ) (log : List Entry) (e : Event) (job : ℕ) → is_about e job i ≡ false
    → life_of i (log ++ log_entry e job ∷ []) ≡ life_of i log
apart i log e job off = life_end i log e job ∙ (ap (λ b. life_of i log ++ cond b (e ∷ []) []) off
    ∙ append-nil (life_of i log))

about : (i : ℕ) (log : List Entry) (e : Event) (job : ℕ) → is_about e job i ≡ true
    → life_of i (log ++ log_entry e job ∷ []) ≡ life_of i log ++ e ∷ []
about i log e job on = life_end i log e job ∙ ap (λ b. life_of i log ++ cond b (e ∷ []) []) on

same_takes : (log : List Entry) (e : Event) (job t : ℕ) → job_taken_by e job ≡ []
    → taken_jobs log ≡ range_with_len 0 t → taken_jobs (log ++ log_entry e job ∷ []) ≡ range_with_len 0 t
same_takes log e job t still old =
    taken_end log e job ∙ (ap (λ xs. taken_jobs log ++ xs) still ∙ (append-nil (taken_jobs log) ∙ old))

-- the stage of one job changes, and its life goes on
change_each : (size : RingSize) (m : Machine) (log : List Entry) (e : Event) (job : ℕ) (a b : Stage) → Story size m log
    → HasStage m job a → ((i : ℕ) → is_about e job i ≡ (i == job))
    → Lived size m.taken job (some b) (life_of job log ++ e ∷ []) → (i : ℕ)
    → Lived size m.taken i (get_elem? (set m.stages job b) i) (life_of i (log ++ log_entry e job ∷ []))
change_each size m log e job a b old has is new i = dite (ℕ_discrete i job)
    (λ x. subst (λ (z : ℕ). Lived size m.taken z (get_elem? (set m.stages job b) z)
    (life_of z (log ++ log_entry e job ∷ []))) (sym x)
    (subst (λ o. Lived size m.taken job o (life_of job (log ++ log_entry e job ∷ [])))
    (sym (set_here m.stages job b (at_length m.stages job a has.1)))
    (subst (λ es. Lived size m.taken job (some b) es) (sym (about job log e job (is job ∙ eq-eqb job job refl))) new)))
    (λ ne. subst (λ o. Lived size m.taken i o (life_of i (log ++ log_entry e job ∷ [])))
    (sym (set_else m.stages job i b ne))
    (subst (λ es. Lived size m.taken i (get_elem? m.stages i) es)
    (sym (apart i log e job (is i ∙ ne_eqb i job ne))) (old.each i)))

put_each : (size : RingSize) (m : Machine) (log : List Entry) → Story size m log → (i : ℕ)
    → Lived size m.taken i (get_elem? (m.stages ++ Ready ∷ []) i)
    (life_of i (log ++ log_entry Put (length m.stages) ∷ []))
put_each size m log old i = let job : ℕ = length m.stages in dite (ℕ_discrete i job)
    (λ x. subst (λ (z : ℕ). Lived size m.taken z (get_elem? (m.stages ++ Ready ∷ []) z)
    (life_of z (log ++ log_entry Put job ∷ []))) (sym x)
    (subst (λ o. Lived size m.taken job o (life_of job (log ++ log_entry Put job ∷ [])))
    (sym (at_last m.stages Ready job refl))
    (let none_yet : life_of job log ≡ [] =
    subst (λ o. Lived size m.taken job o (life_of job log)) (at_above m.stages job (omega arith)) (old.each job) in
    about job log Put job (eq-eqb job job refl) ∙ ap (λ es. es ++ Put ∷ []) none_yet)))
    (λ ne. subst (λ o. Lived size m.taken i o (life_of i (log ++ log_entry Put job ∷ [])))
    (sym (snoc_else m.stages Ready i ne))
    (subst (λ es. Lived size m.taken i (get_elem? m.stages i) es) (sym (apart i log Put job (ne_eqb i job ne)))
    (old.each i)))

not_below : (i t : ℕ) → t ≤ i → ltb i t ≡ false
not_below i t le = search (Rattle.std.proofs.Common.rules, Rattle.std.proofs.Common.tests)

is_below : (i t : ℕ) → i < t → ltb i t ≡ true
is_below i t lt = search (Rattle.std.proofs.Common.rules, Rattle.std.proofs.Common.tests)

same_end : (i t : ℕ) → i ≢ t → Dec (i < t) → ltb i (t + 1) ≡ ltb i t
same_end i t ne (yes lt) = is_below i (t + 1) (omega arith) ∙ sym (is_below i t lt)
same_end i t ne (no ge) = not_below i (t + 1) (omega arith) ∙ sym (not_below i t (omega arith))

kept_end : (size : RingSize) (t i : ℕ) (o : maybe.Option Stage) (es : List Event) → ltb i (t + 1) ≡ ltb i t
    → Lived size t i o es → Lived size (t + 1) i o es
kept_end size t i none es same l = l
kept_end size t i (some Ready) es same l = l
kept_end size t i (some (Busy w)) es same l = l
kept_end size t i (some Done) es same l =
    (l.0, l.1 ∙ ap (λ b. Put ∷ Claim l.0 (i % size.cells) ∷ Finish l.0 ∷ cond b (Take ∷ []) []) (sym same))

take_each : (size : RingSize) (m : Machine) (log : List Entry) → Story size m log
    → get_elem? m.stages m.taken ≡ some Done → (i : ℕ)
    → Lived size (m.taken + 1) i (get_elem? m.stages i) (life_of i (log ++ log_entry Take m.taken ∷ []))
take_each size m log old is i = let t : ℕ = m.taken in dite (ℕ_discrete i t)
    (λ x. subst (λ (z : ℕ). Lived size (t + 1) z (get_elem? m.stages z)
    (life_of z (log ++ log_entry Take t ∷ []))) (sym x)
    (subst (λ o. Lived size (t + 1) t o (life_of t (log ++ log_entry Take t ∷ []))) (sym is)
    (let l : Lived size t t (some Done) (life_of t log) =
    subst (λ o. Lived size t t o (life_of t log)) is (old.each t) in (
      l.0,
      about t log Take t (eq-eqb t t refl)
          ∙ (ap (λ es. es ++ Take ∷ [])
          (l.1 ∙ ap (λ b. Put ∷ Claim l.0 (t % size.cells) ∷ Finish l.0 ∷ cond b (Take ∷ []) [])
          (not_below t t (omega arith)))
          ∙ ap (λ b. Put ∷ Claim l.0 (t % size.cells) ∷ Finish l.0 ∷ cond b (Take ∷ []) [])
          (sym (is_below t (t + 1) (omega arith)))),
    ))))
    (λ ne. subst (λ es. Lived size (t + 1) i (get_elem? m.stages i) es) (sym (apart i log Take t (ne_eqb i t ne)))
    (kept_end size t i (get_elem? m.stages i) (life_of i log) (same_end i t ne (native.Mathlib.Decide.dec_lt i t))
    (old.each i)))

story_step : (size : RingSize) (m : Machine) (log : List Entry) (e : Event) (job : ℕ) (n : Machine)
    → Story size m log → Moves size m e job n → Story size n (log ++ log_entry e job ∷ [])
story_step size m log Put job n old mv = subst (λ x. Story size x (log ++ log_entry Put job ∷ [])) (sym mv.3)
    (subst (λ j. Story size record {
      stages = m.stages ++ Ready ∷ [];
      taken = m.taken;
      stopped =
          m.stopped;
    } (log ++ log_entry Put j ∷ [])) (sym mv.2) record {
      takes = same_takes log Put (length m.stages) m.taken refl old.takes;
      past = λ i l. let old_is = old.past i l in
          snoc_else m.stages Ready i (λ e. let below = at_length m.stages i Done old_is in omega arith) ∙ old_is;
      each = put_each size m log old;
    })
story_step size m log (Claim w c) job n old mv =
    subst (λ x. Story size x (log ++ log_entry (Claim w c) job ∷ [])) (sym mv.5) record {
      takes = same_takes log (Claim w c) job m.taken refl old.takes;
      past = λ i l. set_else m.stages job i (Busy w) (λ e. let le : m.taken ≤ job = mv.3.0 in omega arith)
          ∙ old.past i l;
      each = change_each size m log (Claim w c) job Ready (Busy w) old mv.3 (λ i. refl)
          (let l : life_of job log ≡ Put ∷ [] = subst (λ o. Lived size m.taken job o (life_of job log)) mv.3.1
          (old.each job) in ap (λ es. es ++ Claim w c ∷ []) l ∙ ap (λ z. Put ∷ Claim w z ∷ []) (sym mv.4));
    }
story_step size m log (Finish w) job n old mv =
    subst (λ x. Story size x (log ++ log_entry (Finish w) job ∷ [])) (sym mv.1) record {
      takes = same_takes log (Finish w) job m.taken refl old.takes;
      past = λ i l. set_else m.stages job i Done (λ e. let le : m.taken ≤ job = mv.0.0 in omega arith) ∙ old.past i l;
      each = change_each size m log (Finish w) job (Busy w) Done old mv.0 (λ i. refl)
          (let l : life_of job log ≡ Put ∷ Claim w (job % size.cells) ∷ [] =
          subst (λ o. Lived size m.taken job o (life_of job log)) mv.0.1 (old.each job) in (
            w,
            ap (λ es. es ++ Finish w ∷ []) l
                ∙ ap (λ b. Put ∷ Claim w (job % size.cells) ∷ Finish w ∷ cond b (Take ∷ []) [])
                (sym (not_below job m.taken mv.0.0)),
          ));
    }
story_step size m log Take job n old mv =
    subst (λ x. Story size x (log ++ log_entry Take job ∷ [])) (sym mv.2)
    (subst (λ j. Story size record {
      stages = m.stages;
      taken = m.taken + 1;
      stopped =
          m.stopped;
    } (log ++ log_entry Take j ∷ [])) (sym mv.1)
    (let is : get_elem? m.stages m.taken ≡ some Done = ap (get_elem? m.stages) (sym mv.1) ∙ mv.0.1 in record {
      takes = taken_end log Take m.taken
          ∙ (ap (λ xs. xs ++ m.taken ∷ []) old.takes
          ∙ (ap (λ z. range_with_len 0 m.taken ++ z ∷ []) (let e : m.taken ≡ 0 + m.taken = omega arith in
          e) ∙ sym (range_end 0 m.taken) ∙ ap (range_with_len 0) (let e : suc m.taken ≡ m.taken + 1 =
          omega arith in e)));
      past = λ i l. dite (ℕ_discrete i m.taken) (λ e. ap (get_elem? m.stages) e ∙ is) (λ ne. old.past i (omega arith));
      each = take_each size m log old is;
    }))
story_step size m log Stop job n old mv =
    subst (λ x. Story size x (log ++ log_entry Stop job ∷ [])) (sym mv.2) record {
      takes = same_takes log Stop job m.taken refl old.takes;
      past = old.past;
      each = λ i. subst (λ es. Lived size m.taken i (get_elem? m.stages i) es) (sym (apart i log Stop job refl))
          (old.each i);
    }

story : (size : RingSize) (m : Machine) (before : List Entry) (events : List Event) (log : List Entry)
    (n : Machine) → Story size m before → EventsLead size m events log n → Story size n (before ++ log)
story size m before [] log n old leads =
    subst (λ x. Story size x (before ++ log)) (sym leads.1)
    (subst (λ es. Story size m es) (sym (ap (λ es. before ++ es) leads.0 ∙ append-nil before)) old)
story size m before (e ∷ es) log n old leads = ⊎_elim
    (λ o. let x : Entry = log_entry e o.0 in
    subst (λ ys. Story size n ys) (append_assoc before (x ∷ []) o.2 ∙ ap (λ ys. before ++ ys) (sym o.5))
    (story size o.1 (before ++ x ∷ []) es o.2 n (story_step size m before e o.0 o.1 old o.3) o.4))
    (λ o. story size m before es log n old o.1) leads

pub in_order : (size : RingSize) (events : List Event) (log : List Entry) (n : Machine)
    → EventsLead size empty_machine events log n → (taken_jobs log ≡ range_with_len 0 n.taken)
    × ((i : ℕ) → i < n.taken → IsWholeLife size.cells i (life_of i log))
in_order size events log n leads = let s : Story size n log =
    story size empty_machine [] events log n record {
      takes = refl;
      past = λ i l. absurd (omega arith);
      each =
          λ i. refl;
    } leads in (
      s.takes,
      λ i l. let whole : Lived size n.taken i (some Done) (life_of i log) =
          subst (λ o. Lived size n.taken i o (life_of i log)) (s.past i l) (s.each i) in (
            whole.0,
            whole.1 ∙ ap (λ b. Put ∷ Claim whole.0 (i % size.cells) ∷ Finish whole.0 ∷ cond b (Take ∷ []) [])
                (is_below i n.taken l),
          ),
    )
