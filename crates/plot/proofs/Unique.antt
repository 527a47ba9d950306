-- Each public function's contract leaves one answer.
use Rattle.std.proofs.Common.{◌≡◌, Result, sym, refl, ◌∙◌}
use lib.Ieee.{Float}
use Rattle.laws.specs.Single.{Single}
use Rattle.plot.proofs.drawn.drawn_number.Reads as drawn-number
use Rattle.plot.proofs.drawn.drawn_number.Kinds as drawn-number-kinds
use Rattle.plot.proofs.dots.allan_dot.Reads as allan-dot
use Rattle.plot.proofs.dots.allan_dot.Kinds as allan-dot-kinds
use Rattle.plot.proofs.dots.time_dot.Reads as time-dot
use Rattle.plot.proofs.dots.time_dot.Kinds as time-dot-kinds
use Rattle.plot.proofs.drawn.number.Reads as number_lem
use Rattle.plot.proofs.drawn.number.Kinds as number-kinds
use Rattle.plot.proofs.dots.dot_of_allan.Reads as dot-of-allan
use Rattle.plot.proofs.dots.dot_of_allan.Kinds as dot-of-allan-kinds
use Rattle.plot.proofs.dots.dot_of_time.Reads as dot-of-time
use Rattle.plot.proofs.dots.dot_of_time.Kinds as dot-of-time-kinds
use Rattle.record.specs.declared.grounds.Refused.{Refused}
use Rattle.record.proofs.ToldLaws.{same_told}
use Rattle.plot.specs.Told.{drawn_told, dot_told}
use Rattle.plot.specs.declared.dots.Dot.{Dot}

-- two drawn numbers, and two dots, that are told alike are one
pub same_drawn : (x y : Result Float Refused) → drawn_told x ≡ drawn_told y → x ≡ y
same_drawn = same_told drawn_told (λ z. z.number) (λ z. z.place) (λ z. z.value) (λ _. refl) (λ _. refl) (λ _. refl) (λ _. refl)

pub same_dot : (x y : Result Dot Refused) → dot_told x ≡ dot_told y → x ≡ y
same_dot = same_told dot_told (λ z. z.number) (λ z. z.place) (λ z. z.dot) (λ _. refl) (λ _. refl) (λ _. refl) (λ _. refl)

pub number_single : Single 0 number-kinds.ps number-kinds.r number_lem.Post
number_single κs args z z' w w' first second = (same_drawn z z' (first ∙ sym second), refl)

pub dot_of_allan_single : Single 0 dot-of-allan-kinds.ps dot-of-allan-kinds.r dot-of-allan.Post
dot_of_allan_single κs args z z' w w' first second = (same_dot z z' (first ∙ sym second), refl)

pub dot_of_time_single : Single 0 dot-of-time-kinds.ps dot-of-time-kinds.r dot-of-time.Post
dot_of_time_single κs args z z' w w' first second = (same_dot z z' (first ∙ sym second), refl)

pub drawn_number_single : Single 0 drawn-number-kinds.ps drawn-number-kinds.r drawn-number.Post
drawn_number_single κs args z z' w w' first second = (first ∙ sym second, refl)

pub allan_dot_single : Single 0 allan-dot-kinds.ps allan-dot-kinds.r allan-dot.Post
allan_dot_single κs args z z' w w' first second = (first ∙ sym second, refl)

pub time_dot_single : Single 0 time-dot-kinds.ps time-dot-kinds.r time-dot.Post
time_dot_single κs args z z' w w' first second = (first ∙ sym second, refl)
