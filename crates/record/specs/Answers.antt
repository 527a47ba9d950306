-- What entries that fill a lent buffer answer, and the buffer as they leave it.
use Rattle.std.specs.Prelude.{ℕ, cond, List, ◌==◌}
use Rattle.laws.specs.Lists.{written}
use Rattle.record.specs.declared.Refusal.{Refusal}
use Rattle.record.specs.declared.CountAnswer.{CountAnswer}

-- how many entries were written, or the refusal and nought
unfoldable pub count_answer : Refusal → ℕ → CountAnswer
count_answer r n =
    cond (r.number == 0) (record { number = 0; place = 0; count = n }) (record { number = r.number; place = r.place; count = 0 })

-- the lent buffer: the output at its front and the entries past it unchanged, or all unchanged where the call is refused
unfoldable pub buffer_left : {A : Type 0} → Refusal → List A → List A → List A
buffer_left r out buffer = cond (r.number == 0) (written out buffer) buffer
