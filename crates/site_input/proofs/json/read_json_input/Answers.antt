use Rattle.site_input.proofs.Forms.{same_refusal, json_fault_at, longer}
use Rattle.site_input.proofs.json.read_json_input.Goals as goal

pub returns-in-Err-TooLong-clause-refused : goal.returns-in-Err-TooLong-clause-refused
returns-in-Err-TooLong-clause-refused g c = λ code place broken bytes e a.
    json_fault_at bytes code _ place _ (same_refusal _ code _ place _ broken _ e c.refused.ensures) (longer _ bytes (c.in-Err-TooLong.ensures.long c.in-Err-TooLong.field-0-is) a)
