-- A refusal as it is told: every ground has a number that is not nought, so that what is told is a refusal exactly where there is an error.
use Rattle.std.proofs.Common.{◌≡◌, ℕ, ◌<◌, cond, ◌==◌, Result, Ok, Err, refl, sym, ap, ap₂, ◌∙◌, arith}
use Rattle.record.specs.Refusals.{none, refused}
use Rattle.record.specs.Told.{number_of, told, count_told}
use Rattle.record.specs.declared.Refusal.{Refusal}
use Rattle.record.specs.declared.grounds.Refused.{Refused}
use Rattle.record.specs.declared.grounds.Ground.{Ground}
use Rattle.record.specs.declared.grounds.Ground.TheVariants.{TooFew, TooMany, OutOfRange, NotANumber, BadFactor, NoRoom, BadMeter, NoDeviation, BadFile, BadChannel}

pub numbered : (g : Ground) → 0 < number_of g
numbered TooFew = omega arith
numbered TooMany = omega arith
numbered OutOfRange = omega arith
numbered NotANumber = omega arith
numbered BadFactor = omega arith
numbered NoRoom = omega arith
numbered BadMeter = omega arith
numbered NoDeviation = omega arith
numbered BadFile = omega arith
numbered BadChannel = omega arith

-- an error's number is not nought
pub answered_not : (e : Refused) → number_of e.why ≡ 0 → ⊥
answered_not e nothing = omega (arith, numbered e.why)

-- an error refuses
pub refuses : (e : Refused) {r : Refusal} → refused (number_of e.why) e.place ≡ r → r.number ≡ 0 → ⊥
refuses e {r} is nothing =
    let number : number_of e.why ≡ r.number = ap (λ (s : Refusal). s.number) is in
    omega (arith, numbered e.why)

-- and where there is none, nothing is refused
pub refuses_nothing : {r : Refusal} → none ≡ r → r.number ≡ 0
refuses_nothing is = sym (ap (λ (s : Refusal). s.number) is)

-- ---- one refusal for each number and place

-- the ground of a number of the table
by_number : ℕ → Ground
by_number n =
    cond (n == 1) TooFew (cond (n == 2) TooMany (cond (n == 3) OutOfRange (cond (n == 4) NotANumber (cond (n == 5) BadFactor (cond (n == 6) NoRoom
    (cond (n == 7) BadMeter (cond (n == 8) NoDeviation (cond (n == 9) BadFile BadChannel))))))))

numbered_back : (g : Ground) → by_number (number_of g) ≡ g
unfolding by_number
numbered_back TooFew = refl
numbered_back TooMany = refl
numbered_back OutOfRange = refl
numbered_back NotANumber = refl
numbered_back BadFactor = refl
numbered_back NoRoom = refl
numbered_back BadMeter = refl
numbered_back NoDeviation = refl
numbered_back BadFile = refl
numbered_back BadChannel = refl

-- two of one number are one
pub same_number : (g h : Ground) → number_of g ≡ number_of h → g ≡ h
same_number g h number = sym (numbered_back g) ∙ ap by_number number ∙ numbered_back h

-- two errors that are told alike are one
pub same_refused : (e f : Refused) → number_of e.why ≡ number_of f.why → e.place ≡ f.place → e ≡ f
same_refused e f number place =
    ap₂ (λ (g : Ground) (p : ℕ). record { why = g; place = p }) (same_number e.why f.why number) place

-- two results that are told alike are one, where what is told has the number, the place and the value
module _ {A B : Type 0} (tell : Result A Refused → B) (number place : B → ℕ) (value : B → A)
    (answered : (x : A) → number (tell (Ok x)) ≡ 0) (gives : (x : A) → value (tell (Ok x)) ≡ x)
    (refuses_by : (e : Refused) → number (tell (Err e)) ≡ number_of e.why) (refuses_at : (e : Refused) → place (tell (Err e)) ≡ e.place) where
  told_apart : (x : A) (e : Refused) → tell (Ok x) ≡ tell (Err e) → ⊥
  told_apart x e is =
      let nought : 0 ≡ number_of e.why = sym (answered x) ∙ ap number is ∙ refuses_by e in
      omega (arith, numbered e.why)

  pub same_told : (x y : Result A Refused) → tell x ≡ tell y → x ≡ y
  same_told (Ok x) (Ok y) is = ap Ok (sym (gives x) ∙ ap value is ∙ gives y)
  same_told (Ok x) (Err f) is = absurd (told_apart x f is)
  same_told (Err e) (Ok y) is = absurd (told_apart y e (sym is))
  same_told (Err e) (Err f) is =
      ap Err (same_refused e f (sym (refuses_by e) ∙ ap number is ∙ refuses_by f) (sym (refuses_at e) ∙ ap place is ∙ refuses_at f))

-- two checks that are told alike are one
pub same_check : (x y : Result (Unit {0}) Refused) → told x ≡ told y → x ≡ y
same_check = same_told told (λ r. r.number) (λ r. r.place) (λ _. tt) (λ _. refl) (λ _. refl) (λ _. refl) (λ _. refl)

-- two counts that are told alike are one
pub same_count : (x y : Result ℕ Refused) → count_told x ≡ count_told y → x ≡ y
same_count = same_told count_told (λ z. z.number) (λ z. z.place) (λ z. z.count) (λ _. refl) (λ _. refl) (λ _. refl) (λ _. refl)
