use Rattle.foyer_audit.proofs.accounts.agree.Goals as goal

pub returns-then-each_stands : goal.returns-then-each_stands
returns-then-each_stands g c = (
  (λ yes. rw (← c.receipts-receipts.ensures)
      (record { stand = c.each_stands.ensures.0 c.if-each_stands.true; rise = c.numbers_rise.ensures.0 yes })),
  λ agreed. c.numbers_rise.ensures.1 (rw c.receipts-receipts.ensures agreed.rise),
)

pub returns-else-each_stands : goal.returns-else-each_stands
returns-else-each_stands g c = (
  (λ yes. absurd (let fails = c.if-each_stands.false in cc)),
  λ agreed. c.each_stands.ensures.1 (rw c.receipts-receipts.ensures agreed.stand),
)
