-- What is read is spelled so.
use Rattle.std.proofs.Common.{◌≡◌, ℕ, zero, suc, ◌≤◌, Bool, true, false, cond, nat_eq, ltb, List, [], ◌∷◌, ◌++◌, length, take, drop, Option, None, Some, Result, Ok, Err, refl, sym, ap, subst, ◌∙◌, append_assoc, arith}
use Rattle.std.specs.Int.{w32, w64, from_be_bytes}
use Rattle.std.proofs.lemmas.Bool.{eqb-true, ltb-false}
use Rattle.std.proofs.lemmas.List.{append-nil, nil_from_length, take-append-drop, length-take}
use Rattle.std.proofs.lemmas.Nat.{be_bytes_4, be_bytes_8}
use Rattle.press_wire.specs.declared.message.Message.{Message}
use Rattle.press_wire.specs.Held.{IsBytes}
use Rattle.press_wire.specs.Ranges.{is_within, member_id_of}
use Rattle.press_wire.specs.Reading.{read_message}
use Rattle.press_wire.specs.Spelling.{number4, number8, spelled_message}
use Rattle.press_wire.proofs.Codec.{IsBytes-drop, IsBytes-take, IsBytes-rest, IsBytes-front, IsBytes-back, join, only_named, only_passes}
use Rattle.press_wire.proofs.MessageLaws.{is_read}
use Rattle.press_batch.specs.Carried.{BatchContent}
use Rattle.press_batch.specs.Fields.{or_fault, number4_at, number8_at, is_version, version_at, member_at, flag_of, flag_at, digest_at, piece_at}
use Rattle.press_batch.specs.Reading.{or_extra, digests_at, report_at, mark_at, mark_behind, optional_mark_at, recall_fields_at, recall_behind, recall_at, head_at, read_head, message_at, messages_within, messages_in, batch_in, read_batch}
use Rattle.press_batch.specs.Spelling.{spelled_report, spelled_mark, spelled_optional_mark, spelled_recall, spelled_head, spelled_piece, spelled_messages, spelled_batch, most_bytes}
use Rattle.press_batch.specs.declared.fault.BatchFault.{BatchFault}
use Rattle.press_batch.specs.declared.fault.BatchFault.TheVariants.{TooLong, Short, BadVersion, BadMember, BadRecall, Extra}
use Rattle.press_batch.specs.declared.report.Digests.{Digests}
use Rattle.press_batch.specs.declared.head.Head.{Head}
use Rattle.press_batch.specs.declared.report.Report.{Report}
use Rattle.press_starts.specs.declared.mark.Mark.{Mark}
use Rattle.press_starts.specs.declared.recall.Recall.{Recall}
use Rattle.press_batch.proofs.Lengths.{ok_is, bind_ok, guard_ok, inside_ok, messages_cons, message_leaves}

-- the bytes begin so, and the rest are bytes too
abbrev Took : List ℕ → List ℕ → List ℕ → Type 0
Took spelled bytes rest = (bytes ≡ spelled ++ rest) × IsBytes rest

took_both : (a b bytes mid rest : List ℕ) → Took a bytes mid → Took b mid rest → Took (a ++ b) bytes rest
took_both a b bytes mid rest p q = (join bytes a mid b rest p.0 q.0, q.1)

-- ---- fields

number4_takes : (bytes : List ℕ) (n : ℕ) (rest : List ℕ) → IsBytes bytes → number4_at bytes ≡ Ok (n, rest) → Took (number4 n) bytes rest
unfolding number4_at number4
number4_takes bytes n rest fits e =
    let g = guard_ok (ltb (length bytes) 4) Short (from_be_bytes w32 (take 4 bytes), drop 4 bytes) (n, rest) e in
    let long : 4 ≤ length bytes = ltb-false _ _ g.0 in
    let n-is : from_be_bytes w32 (take 4 bytes) ≡ n = ap (λ (p : ℕ × List ℕ). p.0) g.1 in
    let rest-is : drop 4 bytes ≡ rest = ap (λ (p : ℕ × List ℕ). p.1) g.1 in
    let front : number4 n ≡ take 4 bytes = be_bytes_4 (take 4 bytes) n (omega (arith, long, length-take 4 bytes)) (IsBytes-take 4 bytes fits) (sym n-is) in
    (sym (take-append-drop 4 bytes) ∙ ap (λ (t : List ℕ). t ++ drop 4 bytes) (sym front) ∙ ap (λ (t : List ℕ). number4 n ++ t) rest-is, subst IsBytes rest-is (IsBytes-drop 4 bytes fits))

number8_takes : (bytes : List ℕ) (n : ℕ) (rest : List ℕ) → IsBytes bytes → number8_at bytes ≡ Ok (n, rest) → Took (number8 n) bytes rest
unfolding number8_at number8
number8_takes bytes n rest fits e =
    let g = guard_ok (ltb (length bytes) 8) Short (from_be_bytes w64 (take 8 bytes), drop 8 bytes) (n, rest) e in
    let long : 8 ≤ length bytes = ltb-false _ _ g.0 in
    let n-is : from_be_bytes w64 (take 8 bytes) ≡ n = ap (λ (p : ℕ × List ℕ). p.0) g.1 in
    let rest-is : drop 8 bytes ≡ rest = ap (λ (p : ℕ × List ℕ). p.1) g.1 in
    let front : number8 n ≡ take 8 bytes = be_bytes_8 (take 8 bytes) n (omega (arith, long, length-take 8 bytes)) (IsBytes-take 8 bytes fits) (sym n-is) in
    (sym (take-append-drop 8 bytes) ∙ ap (λ (t : List ℕ). t ++ drop 8 bytes) (sym front) ∙ ap (λ (t : List ℕ). number8 n ++ t) rest-is, subst IsBytes rest-is (IsBytes-drop 8 bytes fits))

or_ok : {A : Type 0} (fault : BatchFault) (o : Option A) (rest : List ℕ) (y : A × List ℕ) → or_fault fault o rest ≡ Ok y → (o ≡ Some y.0) × (rest ≡ y.1)
or_ok fault None rest y e = absurd cc
or_ok fault (Some x) rest y e = let same = ok_is (x, rest) y e in (ap (λ (p : _ × List ℕ). Some p.0) same, ap (λ (p : _ × List ℕ). p.1) same)

version_takes : (bytes : List ℕ) (v : ℕ) (rest : List ℕ) → IsBytes bytes → version_at bytes ≡ Ok (v, rest) → Took (2 ∷ []) bytes rest
unfolding version_at
version_takes [] v rest fits e = absurd cc
version_takes (b ∷ bytes) v rest fits e =
    let w = or_ok BadVersion _ bytes (v, rest) e in
    let is : b ≡ 2 = eqb-true b 2 (only_passes is_version b v w.0) in
    (ap (λ (n : ℕ). n ∷ bytes) is ∙ ap (λ (t : List ℕ). 2 ∷ t) w.1, subst IsBytes w.1 (IsBytes-rest b bytes fits))

member_takes : (bytes : List ℕ) (n : ℕ) (rest : List ℕ) → IsBytes bytes → member_at bytes ≡ Ok (n, rest) → Took (n ∷ []) bytes rest
unfolding member_at
member_takes [] n rest fits e = absurd cc
member_takes (b ∷ bytes) n rest fits e =
    let w = or_ok BadMember (member_id_of b) bytes (n, rest) e in
    let is : b ≡ n = only_named (is_within 1 7) b n w.0 in
    (ap (λ (m : ℕ). m ∷ bytes) is ∙ ap (λ (t : List ℕ). n ∷ t) w.1, subst IsBytes w.1 (IsBytes-rest b bytes fits))

-- ---- reports

digests_spelled : Digests → List ℕ
digests_spelled d = number8 d.peers ++ number8 d.kit

digests_takes : (bytes : List ℕ) (d : Digests) (rest : List ℕ) → IsBytes bytes → digests_at bytes ≡ Ok (d, rest) → Took (digests_spelled d) bytes rest
unfolding digests_at digests_spelled
digests_takes bytes d rest fits e =
    let a = bind_ok (number8_at bytes) _ (d, rest) e in
    let p = number8_takes bytes a.0.0 a.0.1 fits a.1 in
    let b = bind_ok (number8_at a.0.1) _ (d, rest) a.2 in
    let q = number8_takes a.0.1 b.0.0 b.0.1 p.1 b.1 in
    let made : Digests = record { peers = a.0.0; kit = b.0.0 } in
    subst (λ (x : Digests × List ℕ). Took (digests_spelled x.0) bytes x.1) (ok_is (made, b.0.1) (d, rest) b.2) (took_both (number8 a.0.0) (number8 b.0.0) bytes a.0.1 b.0.1 p q)

digest_takes : (bytes d rest : List ℕ) → IsBytes bytes → digest_at bytes ≡ Ok (d, rest) → Took d bytes rest
unfolding digest_at
digest_takes bytes d rest fits e =
    let g = guard_ok (ltb (length bytes) 32) Short (take 32 bytes, drop 32 bytes) (d, rest) e in
    let d-is : take 32 bytes ≡ d = ap (λ (p : List ℕ × List ℕ). p.0) g.1 in
    let rest-is : drop 32 bytes ≡ rest = ap (λ (p : List ℕ × List ℕ). p.1) g.1 in
    (sym (take-append-drop 32 bytes) ∙ ap (λ (t : List ℕ). t ++ drop 32 bytes) d-is ∙ ap (λ (t : List ℕ). d ++ t) rest-is, subst IsBytes rest-is (IsBytes-drop 32 bytes fits))

report_spelled : Report → List ℕ
report_spelled r = digests_spelled r.digests ++ (number8 r.applied ++ (number8 r.chosen ++ (r.digest ++ r.block_digest)))

report_takes : (bytes : List ℕ) (r : Report) (rest : List ℕ) → IsBytes bytes → report_at bytes ≡ Ok (r, rest) → Took (report_spelled r) bytes rest
unfolding report_at report_spelled
report_takes bytes r rest fits e =
    let a = bind_ok (digests_at bytes) _ (r, rest) e in
    let p = digests_takes bytes a.0.0 a.0.1 fits a.1 in
    let b = bind_ok (number8_at a.0.1) _ (r, rest) a.2 in
    let q = number8_takes a.0.1 b.0.0 b.0.1 p.1 b.1 in
    let d = bind_ok (number8_at b.0.1) _ (r, rest) b.2 in
    let s = number8_takes b.0.1 d.0.0 d.0.1 q.1 d.1 in
    let f = bind_ok (digest_at d.0.1) _ (r, rest) d.2 in
    let u = digest_takes d.0.1 f.0.0 f.0.1 s.1 f.1 in
    let h = bind_ok (digest_at f.0.1) _ (r, rest) f.2 in
    let v = digest_takes f.0.1 h.0.0 h.0.1 u.1 h.1 in
    let made : Report = record { applied = b.0.0; chosen = d.0.0; digests = a.0.0; digest = f.0.0; block_digest = h.0.0 } in
    let both = took_both f.0.0 h.0.0 d.0.1 f.0.1 h.0.1 u v in
    let three = took_both (number8 d.0.0) (f.0.0 ++ h.0.0) b.0.1 d.0.1 h.0.1 s both in
    let four = took_both (number8 b.0.0) (number8 d.0.0 ++ (f.0.0 ++ h.0.0)) a.0.1 b.0.1 h.0.1 q three in
    subst (λ (x : Report × List ℕ). Took (report_spelled x.0) bytes x.1) (ok_is (made, h.0.1) (r, rest) h.2)
    (took_both (digests_spelled a.0.0) (number8 b.0.0 ++ (number8 d.0.0 ++ (f.0.0 ++ h.0.0))) bytes a.0.1 h.0.1 p four)

report_is : (r : Report) → report_spelled r ≡ spelled_report r
unfolding spelled_report report_spelled digests_spelled
report_is r = append_assoc (number8 r.digests.peers) (number8 r.digests.kit) (number8 r.applied ++ (number8 r.chosen ++ (r.digest ++ r.block_digest)))

-- ---- recalls

-- the byte that says whether there is something
abbrev flag_byte : Bool → ℕ
flag_byte true = 1
flag_byte false = 0

abbrev some_flag : Bool → Option Bool
some_flag flag = Some flag

abbrev no_mark : Option Mark
no_mark = None

abbrev some_mark : Mark → Option Mark
some_mark m = Some m

abbrev no_recall : Option Recall
no_recall = None

abbrev some_recall : Recall → Option Recall
some_recall r = Some r

same_flag : (x y : Bool) → some_flag x ≡ some_flag y → x ≡ y
same_flag x y e = cc

flag_is : (b : ℕ) (flag : Bool) → flag_of b ≡ Some flag → b ≡ flag_byte flag
flag_is b flag e = go (nat_eq b 0) (nat_eq b 1) refl refl e
  where
    go : (s t : Bool) → nat_eq b 0 ≡ s → nat_eq b 1 ≡ t → cond s (Some false) (cond t (Some true) None) ≡ Some flag → b ≡ flag_byte flag
    go true t none_is some_is e = eqb-true b 0 none_is ∙ ap flag_byte (same_flag false flag e)
    go false true none_is some_is e = eqb-true b 1 some_is ∙ ap flag_byte (same_flag true flag e)
    go false false none_is some_is e = absurd cc

flag_takes : (bytes : List ℕ) (flag : Bool) (rest : List ℕ) → IsBytes bytes → flag_at bytes ≡ Ok (flag, rest) → Took (flag_byte flag ∷ []) bytes rest
unfolding flag_at
flag_takes [] flag rest fits e = absurd cc
flag_takes (b ∷ bytes) flag rest fits e =
    let w = or_ok BadRecall (flag_of b) bytes (flag, rest) e in
    (ap (λ (n : ℕ). n ∷ bytes) (flag_is b flag w.0) ∙ ap (λ (t : List ℕ). flag_byte flag ∷ t) w.1, subst IsBytes w.1 (IsBytes-rest b bytes fits))

mark_takes : (bytes : List ℕ) (m : Mark) (rest : List ℕ) → IsBytes bytes → mark_at bytes ≡ Ok (m, rest) → Took (spelled_mark m) bytes rest
unfolding mark_at spelled_mark
mark_takes bytes m rest fits e =
    let a = bind_ok (number8_at bytes) _ (m, rest) e in
    let p = number8_takes bytes a.0.0 a.0.1 fits a.1 in
    let b = bind_ok (number8_at a.0.1) _ (m, rest) a.2 in
    let q = number8_takes a.0.1 b.0.0 b.0.1 p.1 b.1 in
    let made : Mark = record { start = a.0.0; saves = b.0.0 } in
    subst (λ (x : Mark × List ℕ). Took (number8 x.0.start ++ number8 x.0.saves) bytes x.1) (ok_is (made, b.0.1) (m, rest) b.2) (took_both (number8 a.0.0) (number8 b.0.0) bytes a.0.1 b.0.1 p q)

mark_behind_takes : (flag : Bool) (bytes : List ℕ) (m : Option Mark) (rest : List ℕ) → IsBytes bytes → mark_behind flag bytes ≡ Ok (m, rest) → (left : List ℕ) × (spelled_optional_mark m ≡ flag_byte flag ∷ left) × Took left bytes rest
unfolding mark_behind spelled_optional_mark
mark_behind_takes false bytes m rest fits e =
    let same = ok_is (no_mark, bytes) (m, rest) e in
    ([], ap (λ (x : Option Mark × List ℕ). spelled_optional_mark x.0) (sym same), (ap (λ (x : Option Mark × List ℕ). x.1) same, subst IsBytes (ap (λ (x : Option Mark × List ℕ). x.1) same) fits))
mark_behind_takes true bytes m rest fits e =
    let a = bind_ok (mark_at bytes) _ (m, rest) e in
    let p = mark_takes bytes a.0.0 a.0.1 fits a.1 in
    let same = ok_is (some_mark a.0.0, a.0.1) (m, rest) a.2 in
    (spelled_mark a.0.0, ap (λ (x : Option Mark × List ℕ). spelled_optional_mark x.0) (sym same), subst (λ (t : List ℕ). Took (spelled_mark a.0.0) bytes t) (ap (λ (x : Option Mark × List ℕ). x.1) same) p)

optional_mark_takes : (bytes : List ℕ) (m : Option Mark) (rest : List ℕ) → IsBytes bytes → optional_mark_at bytes ≡ Ok (m, rest) → Took (spelled_optional_mark m) bytes rest
unfolding optional_mark_at
optional_mark_takes bytes m rest fits e =
    let a = bind_ok (flag_at bytes) _ (m, rest) e in
    let p = flag_takes bytes a.0.0 a.0.1 fits a.1 in
    let b = mark_behind_takes a.0.0 a.0.1 m rest p.1 a.2 in
    subst (λ (t : List ℕ). Took t bytes rest) (sym b.1) (took_both (flag_byte a.0.0 ∷ []) b.0 bytes a.0.1 rest p b.2)

fields_spelled : Recall → List ℕ
fields_spelled r = spelled_mark r.mark ++ (number8 r.number ++ (spelled_optional_mark r.heard ++ spelled_optional_mark r.answered))

fields_takes : (bytes : List ℕ) (r : Recall) (rest : List ℕ) → IsBytes bytes → recall_fields_at bytes ≡ Ok (r, rest) → Took (fields_spelled r) bytes rest
unfolding recall_fields_at fields_spelled
fields_takes bytes r rest fits e =
    let a = bind_ok (mark_at bytes) _ (r, rest) e in
    let p = mark_takes bytes a.0.0 a.0.1 fits a.1 in
    let b = bind_ok (number8_at a.0.1) _ (r, rest) a.2 in
    let q = number8_takes a.0.1 b.0.0 b.0.1 p.1 b.1 in
    let d = bind_ok (optional_mark_at b.0.1) _ (r, rest) b.2 in
    let s = optional_mark_takes b.0.1 d.0.0 d.0.1 q.1 d.1 in
    let f = bind_ok (optional_mark_at d.0.1) _ (r, rest) d.2 in
    let u = optional_mark_takes d.0.1 f.0.0 f.0.1 s.1 f.1 in
    let made : Recall = record { mark = a.0.0; number = b.0.0; heard = d.0.0; answered = f.0.0 } in
    let both = took_both (spelled_optional_mark d.0.0) (spelled_optional_mark f.0.0) b.0.1 d.0.1 f.0.1 s u in
    let three = took_both (number8 b.0.0) (spelled_optional_mark d.0.0 ++ spelled_optional_mark f.0.0) a.0.1 b.0.1 f.0.1 q both in
    subst (λ (x : Recall × List ℕ). Took (fields_spelled x.0) bytes x.1) (ok_is (made, f.0.1) (r, rest) f.2)
    (took_both (spelled_mark a.0.0) (number8 b.0.0 ++ (spelled_optional_mark d.0.0 ++ spelled_optional_mark f.0.0)) bytes a.0.1 f.0.1 p three)

recall_behind_takes : (flag : Bool) (bytes : List ℕ) (r : Option Recall) (rest : List ℕ) → IsBytes bytes → recall_behind flag bytes ≡ Ok (r, rest) → (left : List ℕ) × (spelled_recall r ≡ flag_byte flag ∷ left) × Took left bytes rest
unfolding recall_behind spelled_recall fields_spelled
recall_behind_takes false bytes r rest fits e =
    let same = ok_is (no_recall, bytes) (r, rest) e in
    ([], ap (λ (x : Option Recall × List ℕ). spelled_recall x.0) (sym same), (ap (λ (x : Option Recall × List ℕ). x.1) same, subst IsBytes (ap (λ (x : Option Recall × List ℕ). x.1) same) fits))
recall_behind_takes true bytes r rest fits e =
    let a = bind_ok (recall_fields_at bytes) _ (r, rest) e in
    let p = fields_takes bytes a.0.0 a.0.1 fits a.1 in
    let same = ok_is (some_recall a.0.0, a.0.1) (r, rest) a.2 in
    (fields_spelled a.0.0, ap (λ (x : Option Recall × List ℕ). spelled_recall x.0) (sym same), subst (λ (t : List ℕ). Took (fields_spelled a.0.0) bytes t) (ap (λ (x : Option Recall × List ℕ). x.1) same) p)

recall_takes : (bytes : List ℕ) (r : Option Recall) (rest : List ℕ) → IsBytes bytes → recall_at bytes ≡ Ok (r, rest) → Took (spelled_recall r) bytes rest
unfolding recall_at
recall_takes bytes r rest fits e =
    let a = bind_ok (flag_at bytes) _ (r, rest) e in
    let p = flag_takes bytes a.0.0 a.0.1 fits a.1 in
    let b = recall_behind_takes a.0.0 a.0.1 r rest p.1 a.2 in
    subst (λ (t : List ℕ). Took t bytes rest) (sym b.1) (took_both (flag_byte a.0.0 ∷ []) b.0 bytes a.0.1 rest p b.2)

-- ---- heads

head_is : (h : Head) → 2 ∷ h.from ∷ (report_spelled h.report ++ spelled_recall h.recall) ≡ spelled_head h
unfolding spelled_head
head_is h = ap (λ (t : List ℕ). 2 ∷ h.from ∷ (t ++ spelled_recall h.recall)) (report_is h.report)

head_takes : (bytes : List ℕ) (h : Head) (rest : List ℕ) → IsBytes bytes → head_at bytes ≡ Ok (h, rest) → Took (spelled_head h) bytes rest
unfolding head_at
head_takes bytes h rest fits e =
    let a = bind_ok (version_at bytes) _ (h, rest) e in
    let p = version_takes bytes a.0.0 a.0.1 fits a.1 in
    let b = bind_ok (member_at a.0.1) _ (h, rest) a.2 in
    let q = member_takes a.0.1 b.0.0 b.0.1 p.1 b.1 in
    let d = bind_ok (report_at b.0.1) _ (h, rest) b.2 in
    let s = report_takes b.0.1 d.0.0 d.0.1 q.1 d.1 in
    let f = bind_ok (recall_at d.0.1) _ (h, rest) d.2 in
    let u = recall_takes d.0.1 f.0.0 f.0.1 s.1 f.1 in
    let made : Head = record { from = b.0.0; report = d.0.0; recall = f.0.0 } in
    let both = took_both (report_spelled d.0.0) (spelled_recall f.0.0) b.0.1 d.0.1 f.0.1 s u in
    let all = took_both (2 ∷ []) (b.0.0 ∷ (report_spelled d.0.0 ++ spelled_recall f.0.0)) bytes a.0.1 f.0.1 p (took_both (b.0.0 ∷ []) (report_spelled d.0.0 ++ spelled_recall f.0.0) a.0.1 b.0.1 f.0.1 q both) in
    subst (λ (x : Head × List ℕ). Took (spelled_head x.0) bytes x.1) (ok_is (made, f.0.1) (h, rest) f.2)
    (all.0 ∙ ap (λ (t : List ℕ). t ++ f.0.1) (head_is made), all.1)

-- a head, with nothing behind it
pub head_taken : (bytes rest : List ℕ) (h : Head) → IsBytes bytes → head_at bytes ≡ Ok (h, rest) → nat_eq (length rest) 0 ≡ true → bytes ≡ spelled_head h
head_taken bytes rest h fits e over =
    let nothing : rest ≡ [] = nil_from_length rest (eqb-true _ _ over) in
    (head_takes bytes h rest fits e).0 ∙ ap (λ (t : List ℕ). spelled_head h ++ t) nothing ∙ append-nil (spelled_head h)

-- ---- messages

piece_takes : (bytes piece rest : List ℕ) → IsBytes bytes → piece_at bytes ≡ Ok (piece, rest) → Took (spelled_piece piece) bytes rest
unfolding piece_at spelled_piece
piece_takes bytes piece rest fits e =
    let a = bind_ok (number4_at bytes) _ (piece, rest) e in
    let p = number4_takes bytes a.0.0 a.0.1 fits a.1 in
    let g = guard_ok (ltb (length a.0.1) a.0.0) Short (take a.0.0 a.0.1, drop a.0.0 a.0.1) (piece, rest) a.2 in
    let long : a.0.0 ≤ length a.0.1 = ltb-false _ _ g.0 in
    let piece-is : take a.0.0 a.0.1 ≡ piece = ap (λ (x : List ℕ × List ℕ). x.0) g.1 in
    let rest-is : drop a.0.0 a.0.1 ≡ rest = ap (λ (x : List ℕ × List ℕ). x.1) g.1 in
    let len : a.0.0 ≡ length piece = omega (arith, long, ap length piece-is, length-take a.0.0 a.0.1) in
    let cut : a.0.1 ≡ piece ++ rest = sym (take-append-drop a.0.0 a.0.1) ∙ ap (λ (t : List ℕ). t ++ drop a.0.0 a.0.1) piece-is ∙ ap (λ (t : List ℕ). piece ++ t) rest-is in
    took_both (number4 (length piece)) piece bytes a.0.1 rest (subst (λ (n : ℕ). Took (number4 n) bytes a.0.1) len p) (cut, subst IsBytes rest-is (IsBytes-drop a.0.0 a.0.1 p.1))

piece_is : (piece : List ℕ) → spelled_piece piece ≡ number4 (length piece) ++ piece
unfolding spelled_piece
piece_is piece = refl

message_takes : (bytes : List ℕ) (m : Message) (rest : List ℕ) → IsBytes bytes → message_at bytes ≡ Ok (m, rest) → Took (spelled_piece (spelled_message m)) bytes rest
unfolding message_at
message_takes bytes m rest fits e =
    let a = bind_ok (piece_at bytes) _ (m, rest) e in
    let p = piece_takes bytes a.0.0 a.0.1 fits a.1 in
    let i = inside_ok (read_message a.0.0) a.0.1 (m, rest) a.2 in
    let all : IsBytes (spelled_piece a.0.0 ++ a.0.1) = subst IsBytes p.0 fits in
    let within : IsBytes a.0.0 = IsBytes-back (number4 (length a.0.0)) a.0.0 (subst IsBytes (piece_is a.0.0) (IsBytes-front (spelled_piece a.0.0) a.0.1 all)) in
    let spelled : a.0.0 ≡ spelled_message m = (is_read a.0.0 m within i.0).1 in
    subst (λ (t : List ℕ). Took (spelled_piece (spelled_message m)) bytes t) i.1 (subst (λ (t : List ℕ). Took (spelled_piece t) bytes a.0.1) spelled p)

abbrev done_messages : List Message → Result (List Message) BatchFault
done_messages messages = Ok messages

nothing_taken : (messages : List Message) → done_messages [] ≡ Ok messages → [] ≡ spelled_messages messages
unfolding spelled_messages
nothing_taken messages e = ap spelled_messages (ok_is [] messages e)

messages_taken : (most : ℕ) (bytes : List ℕ) (messages : List Message) → IsBytes bytes → length bytes ≤ most → messages_within most bytes ≡ Ok messages → bytes ≡ spelled_messages messages
unfolding messages_within
messages_taken zero [] messages fits enough e = nothing_taken messages e
messages_taken zero (b ∷ bytes) messages fits enough e = absurd (omega (arith, enough))
messages_taken (suc more) [] messages fits enough e = nothing_taken messages e
messages_taken (suc more) (b ∷ bytes) messages fits enough e =
    let a = bind_ok (message_at (b ∷ bytes)) _ messages e in
    let p = message_takes (b ∷ bytes) a.0.0 a.0.1 fits a.1 in
    let d = bind_ok (messages_within more a.0.1) _ messages a.2 in
    let less = message_leaves (b ∷ bytes) a.0.0 a.0.1 a.1 in
    let left : a.0.1 ≡ spelled_messages d.0 = messages_taken more a.0.1 d.0 p.1 (omega (arith, less, enough)) d.1 in
    p.0 ∙ ap (λ (t : List ℕ). spelled_piece (spelled_message a.0.0) ++ t) left ∙ sym (messages_cons a.0.0 d.0) ∙ ap spelled_messages (ok_is (a.0.0 ∷ d.0) messages d.2)

-- ---- batches

pub batch_taken : (bytes rest : List ℕ) (b : BatchContent) → IsBytes bytes → head_at bytes ≡ Ok (b.head, rest) → messages_in rest ≡ Ok b.messages → bytes ≡ spelled_batch b
unfolding spelled_batch
batch_taken bytes rest b fits head messages =
    let p = head_takes bytes b.head rest fits head in
    p.0 ∙ ap (λ (t : List ℕ). spelled_head b.head ++ t) (messages_taken (length rest) rest b.messages p.1 (omega arith) messages)

-- ---- the laws

ended_ok : {A : Type 0} (x : A × List ℕ) (y : A) → or_extra x ≡ Ok y → (nat_eq (length x.1) 0 ≡ true) × (x.0 ≡ y)
ended_ok x y e = go (nat_eq (length x.1) 0) refl e
  where
    go : (t : Bool) → nat_eq (length x.1) 0 ≡ t → cond t (Ok x.0) (Err Extra) ≡ Ok y → (nat_eq (length x.1) 0 ≡ true) × (x.0 ≡ y)
    go true is e = (is, ok_is x.0 y e)
    go false is e = absurd cc

pub head_is_spelled : (bytes : List ℕ) (h : Head) → IsBytes bytes → read_head bytes ≡ Ok h → bytes ≡ spelled_head h
unfolding read_head
head_is_spelled bytes h fits e =
    let a = bind_ok (head_at bytes) or_extra h e in
    let w = ended_ok a.0 h a.2 in
    subst (λ (h : Head). bytes ≡ spelled_head h) w.1 (head_taken bytes a.0.1 a.0.0 fits a.1 w.0)

pub batch_is_spelled : (bytes : List ℕ) (b : BatchContent) → IsBytes bytes → read_batch bytes ≡ Ok b → bytes ≡ spelled_batch b
unfolding read_batch batch_in
batch_is_spelled bytes b fits e =
    let g = short_ok (ltb most_bytes (length bytes)) (batch_in bytes) b e in
    let a = bind_ok (head_at bytes) _ b g in
    let d = bind_ok (messages_in a.0.1) _ b a.2 in
    let made : BatchContent = record { head = a.0.0; messages = d.0 } in
    subst (λ (x : BatchContent). bytes ≡ spelled_batch x) (ok_is made b d.2) (batch_taken bytes a.0.1 made fits a.1 d.1)
  where
    short_ok : (t : Bool) (r : Result BatchContent BatchFault) (b : BatchContent) → cond t (Err TooLong) r ≡ Ok b → r ≡ Ok b
    short_ok true r b e = absurd cc
    short_ok false r b e = e
