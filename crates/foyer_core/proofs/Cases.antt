-- What holds of an answer, by its cases.
use Rattle.std.specs.Prelude.{Result, Ok, Err, IfErr, IfOk, MatchResult, OnErr}

pub cases_of : {T E : Type 0} (r : Result T E) {A : T → Type 0} {B : Type 0} {C : E → Type 0} {D : T → Type 0}
    {F : E → Type 0} → IfOk r A → OnErr r B → IfErr r C
    → ((t : T) → A t → D t) → ((e : E) → B → C e → F e) → MatchResult r D F
cases_of (Ok t) done same refused so not_so = so t done
cases_of (Err e) done same refused so not_so = not_so e same refused
