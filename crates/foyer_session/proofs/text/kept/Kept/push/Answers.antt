use Rattle.std.proofs.Common.{◌≡◌, ◌<◌, ◌∷◌, [], ◌++◌, true, not, ◌&&◌, eqb, length, take, sym, ap, ◌∙◌, subst, arith, length-take-le}
use Rattle.std.proofs.lemmas.List.{take_more_set}
use Rattle.foyer_session.specs.Kept.{StandsFor, last_after, is_tight_after}
use Rattle.foyer_session.proofs.KeptLemmas.{StandsFor-space, StandsFor-full, apart_by_last, apart_by_byte, last_after-push, is_tight_after-push}
use Rattle.foyer_session.proofs.text.kept.Kept.push.Goals as goal
use Rattle.foyer_session.proofs.text.kept.Kept.push.Goals.{else-byte-eq32-via-then-byte-eq32+else-self-eq32, else-byte-eq32-via-else-byte-eq32}

pub returns-then-self-eq32 : goal.returns-then-self-eq32
returns-then-self-eq32 c =
    let kept = c.args.self.now in
    let last : last_after 32 kept ≡ 32 = ap (last_after 32) (sym c.self.view_is) ∙ sym c.self.invariant.1
    ∙ c.if-self-eq32.true in
    subst (λ b. StandsFor kept (kept ++ b ∷ [])) (sym c.if-byte-eq32.true) (StandsFor-space kept last)

pub invariant_of-self : goal.invariant_of-self
invariant_of-self c =
    let old = take c.self.inside.len c.self.inside.bytes in
    let more = take_more_set c.self.inside.bytes c.self.inside.len c.args.byte (omega (arith, c.self.told)) in
    let apart : not (eqb (last_after 32 old) 32 && eqb c.args.byte 32) ≡ true = elim c.else-byte-eq32.branch [
      | else-byte-eq32-via-then-byte-eq32+else-self-eq32 w ↦ apart_by_last (last_after 32 old) c.args.byte
          (λ e. w.if-self-eq32.false (c.self.invariant.1 ∙ e))
      | else-byte-eq32-via-else-byte-eq32 w ↦ apart_by_byte (last_after 32 old) c.args.byte w.if-byte-eq32.false
    ] in (
      omega (arith, c.if-self-lt-MOST.true),
      sym (ap (last_after 32) more ∙ last_after-push 32 old c.args.byte),
      ap (is_tight_after 32) more ∙ is_tight_after-push 32 old c.args.byte c.self.invariant.2 apart,
    )

pub returns-else-self-lt-MOST : goal.returns-else-self-lt-MOST
returns-else-self-lt-MOST c =
    let kept = c.args.self.now in
    let all = length-take-le c.self.inside.len c.self.inside.bytes (omega (arith, c.self.told, c.self.invariant.0)) in
    let long : 105 < length kept = omega (arith, ap length c.self.view_is, all, c.if-self-lt-MOST.false) in
    StandsFor-full kept c.args.byte (ap (is_tight_after 32) (sym c.self.view_is) ∙ c.self.invariant.2) long
