-- The checks of a report one after the other: what the first refuses is refused, and what it passes is left to the later ones.
use Rattle.std.proofs.Common.{◌≡◌, ℕ, List, Some, None, Ok, Err, Option, Result}
use Rattle.quantity.specs.declared.energy.Energy.{Energy}
use Rattle.quantity.specs.declared.power.Power.{Power}
use Rattle.quantity.specs.declared.refusal.Refusal.{Refusal}
use Rattle.quantity.specs.Refusals.{Answers, unless, first_of}
use Rattle.group_report.specs.declared.participation.Participation.{Participation}
use Rattle.group_report.specs.declared.report.GroupReport.{GroupReport}
use Rattle.group_report.specs.Participations.{samples_refusal, participation_of}
use Rattle.group_report.specs.Reports.{figures_within, report_refusal}

refused_first : {A B : Type 0} (check later : Option ℕ) (P : A → Type 0) (Q : B → Type 0) (why : Refusal) → Answers check P (Err why) → Answers (first_of check later) Q (Err why)
refused_first (Some number) later P Q why h = h
refused_first None later P Q why h = absurd h

passed_first : {A B : Type 0} (check later : Option ℕ) (P : A → Type 0) (Q : B → Type 0) (x : A) (r : Result B Refusal) → Answers check P (Ok x) → Answers later Q r → Answers (first_of check later) Q r
passed_first (Some number) later P Q x r h k = absurd h
passed_first None later P Q x r h k = k

answer_is : {A : Type 0} (check : Option ℕ) (P : A → Type 0) (x : A) → Answers check P (Ok x) → P x
answer_is (Some number) P x h = absurd h
answer_is None P x h = h

-- what the samples of a service answer
abbrev Sampled : List ℕ → Result Participation Refusal → Type 0
Sampled xs r = Answers (samples_refusal xs) (λ p. p ≡ participation_of xs) r

pub participation_is : (xs : List ℕ) (p : Participation) → Sampled xs (Ok p) → p ≡ participation_of xs
participation_is xs p h = answer_is (samples_refusal xs) (λ q. q ≡ participation_of xs) p h

module _ (fcr afrr : List ℕ) (offered measured : Power) (energy : Energy) (baseline : Power) where
  abbrev Judged : Result GroupReport Refusal → Type 0
  Judged r = Answers (report_refusal fcr afrr offered measured energy baseline) (λ _. Unit {0}) r

  abbrev Rest : Option ℕ
  Rest = first_of (samples_refusal afrr) (unless (figures_within offered measured energy baseline) 11)

  pub fcr_refused : (why : Refusal) → Sampled fcr (Err why) → Judged (Err why)
  fcr_refused why h = refused_first (samples_refusal fcr) Rest (λ p. p ≡ participation_of fcr) (λ _. Unit {0}) why h

  pub afrr_refused : (p : Participation) (why : Refusal) → Sampled fcr (Ok p) → Sampled afrr (Err why) → Judged (Err why)
  afrr_refused p why h k =
      passed_first (samples_refusal fcr) Rest (λ q. q ≡ participation_of fcr) (λ _. Unit {0}) p (Err why) h
      (refused_first (samples_refusal afrr) (unless (figures_within offered measured energy baseline) 11) (λ q. q ≡ participation_of afrr) (λ _. Unit {0}) why k)

  pub figures_judged : (p q : Participation) (r : Result GroupReport Refusal) → Sampled fcr (Ok p) → Sampled afrr (Ok q) → Answers (unless (figures_within offered measured energy baseline) 11) (λ _. Unit {0}) r → Judged r
  figures_judged p q r h k last =
      passed_first (samples_refusal fcr) Rest (λ x. x ≡ participation_of fcr) (λ _. Unit {0}) p r h
      (passed_first (samples_refusal afrr) (unless (figures_within offered measured energy baseline) 11) (λ x. x ≡ participation_of afrr) (λ _. Unit {0}) q r k last)
