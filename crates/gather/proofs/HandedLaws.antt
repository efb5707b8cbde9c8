-- What is handed out: whole packets with good CRCs, of the waiting bytes and of the transport packet's, in order; and where
-- the caller finds them.
-- Assumes nothing.
use mathlib.Core.Path.{◌≡◌, refl, sym, ap, ◌∙◌}
use mathlib.Core.List.{List, [], ◌∷◌, ◌++◌, append-nil}
use Prim.Native.Nat.{ℕ, ◌+◌, ◌*◌, ◌≤◌}
use native.Mathlib.Omega.{arith}
use lib.ListN.{length, take, drop, length-append, length-drop}
use Rattle.fields.specs.Numbers.{Bytes}
use Rattle.fields.proofs.Cases.{cases}
use Rattle.fields.proofs.NumberLaws.{bytes-append}
use Rattle.fields.proofs.PartLaws.{take-front}
use Rattle.packet.specs.Cut.{AllWhole, Cut, cut, joined}
use Rattle.packet.proofs.LayoutLaws.{size-least}
use Rattle.packet.proofs.CutLaws.{cut-cuts, first-whole, cut_all, joined-append}
use Rattle.transport.specs.Header.{starts, pointer_of, payload_at}
use Rattle.gather.specs.Rules.{Brought, brought_by, Hand, up_to_start, unfinished, from_start, rules_on}
use Rattle.gather.specs.Gather.{in_hand, entered_of, result_of, taken_of}
use Rattle.gather.specs.Theorems.{Front, nothing, finished-one, HandedOut}
use Rattle.gather.specs.declared.Reader.{Reader}
use Rattle.gather.proofs.RefusalLaws.{payload-from}
use Rattle.gather.proofs.JoinLaws.{Small, front-small, front}
use Rattle.gather.proofs.StartLaws.{unfinished-packets, from-start-packets}
use Rattle.gather.proofs.GatherLaws.{brings-start, brings-plain}
use Rattle.gather.proofs.StateLaws.{rule-cases, before-bytes, entered-bytes}

-- ---- whence the packets come

front-whole : {w d : List ℕ} {ps : List (List ℕ)} → Front w d ps → AllWhole ps
front-whole {w} {d} nothing = tt
front-whole {w} {d} (finished-one k c) = (first-whole (w ++ d) k c, tt)

whole_append : (ps qs : List (List ℕ)) → AllWhole ps → AllWhole qs → AllWhole (ps ++ qs)
whole_append [] qs a b = b
whole_append (p ∷ ps) qs a b = (a.0, whole_append ps qs a.1 b)

module _ (b : Brought) (h : Hand) (p : h.packets ≡ []) where
  abbrev f : Hand
  f = up_to_start b.before h

  joined-one : Front h.waiting b.before f.packets
  joined-one = front b.before h p

  with-others : (from_start b.onward (unfinished f)).packets ≡ f.packets ++ (cut b.onward).packets
  with-others =
      from-start-packets b.onward (unfinished f) ∙ ap (λ (x : List (List ℕ)). x ++ (cut b.onward).packets) (unfinished-packets f)

  pub handed_out : HandedOut h.waiting b.before b.onward (rules_on b h).packets
  unfolding rules_on joined
  handed_out =
      cases b.begins
      (λ e. rw e
      (record {
        one = f.packets;
        others = (cut b.onward).packets;
        rest = (cut b.onward).rest;
        is = with-others;
        joins = joined-one;
        follow = (cut-cuts b.onward).bytes;
      }))
      (λ e. rw e
      (record {
        one = f.packets;
        others = [];
        rest = b.onward;
        is = sym (append-nil f.packets);
        joins = joined-one;
        follow = refl;
      }))

  -- only whole packets whose CRC holds
  pub handed-whole : AllWhole (rules_on b h).packets
  unfolding rules_on
  handed-whole =
      cases b.begins
      (λ e. rw (e, with-others) (whole_append f.packets (cut b.onward).packets (front-whole joined-one) (cut-cuts b.onward).whole))
      (λ e. rw e (front-whole joined-one))

-- rule 1 hands nothing out
pub entered-none : (s : Reader) (t g : List ℕ) → (entered_of s t g).packets ≡ []
entered-none s t g = rule-cases (λ h. h.packets ≡ []) s.last (brought_by t).count (in_hand s g) refl refl (λ r. refl)

pub result-handed : (s : Reader) (t g : List ℕ) → HandedOut (entered_of s t g).waiting (brought_by t).before (brought_by t).onward (result_of s t g).packets
result-handed s t g = handed_out (brought_by t) (entered_of s t g) (entered-none s t g)

pub result-whole : (s : Reader) (t g : List ℕ) → AllWhole (result_of s t g).packets
result-whole s t g = handed-whole (brought_by t) (entered_of s t g) (entered-none s t g)

-- ---- how many they are

-- a whole packet has at least ten bytes
whole-number : (ps : List (List ℕ)) → AllWhole ps → 10 * length ps ≤ length (joined ps)
unfolding joined
whole-number [] w = omega arith
whole-number (p ∷ ps) w = rw (length-append p (joined ps)) (omega (arith, w.0.size, size-least p, whole-number ps w.1))

pub packets-number : (s : Reader) (t g : List ℕ) → 10 * length (result_of s t g).packets ≤ length (joined (result_of s t g).packets)
packets-number s t g = whole-number (result_of s t g).packets (result-whole s t g)

module _ (s : Reader) (t g : List ℕ) (bt : Bytes t) (bg : Bytes g) where
  -- what waits and what comes before the start
  pub both_bytes : Bytes ((entered_of s t g).waiting ++ (brought_by t).before)
  both_bytes = bytes-append (entered_of s t g).waiting (brought_by t).before (entered-bytes s t g bg) (before-bytes t bt)

  onward-few : length t ≡ 188 → length (brought_by t).onward ≤ 183
  onward-few whole =
      cases (starts t)
      (λ b. rw (brings-start t b, length-drop (pointer_of t) (drop (payload_at t + 1) t), length-drop (payload_at t + 1) t) (omega (arith, payload-from t)))
      (λ b. rw (brings-plain t b) (omega arith))

  -- 8,202 bytes that were begun before, and 183 from the start on
  pub packets-few : length t ≡ 188 → length (joined (result_of s t g).packets) ≤ 8385
  packets-few whole =
      let h = result-handed s t g in
      let n : length (joined (result_of s t g).packets) ≡ length (joined h.one) + length (joined h.others) =
      ap (λ (ps : List (List ℕ)). length (joined ps)) h.is ∙ ap length (joined-append h.one h.others) ∙ length-append (joined h.one) (joined h.others) in
      let f : length (joined h.others) + length h.rest ≡ length (brought_by t).onward =
      sym (length-append (joined h.others) h.rest) ∙ ap length h.follow in
      let one : Small h.one = front-small both_bytes h.joins in
      omega (arith, onward-few whole)

-- ---- where they lie

module _ (s : Reader) (t g o : List ℕ) where
  -- the written bytes are the packets back to back, and are cut into them again
  pub taken-bytes : take (taken_of s t g o).answer.bytes (taken_of s t g o).output ≡ joined (result_of s t g).packets
  unfolding taken_of
  taken-bytes = take-front (joined (result_of s t g).packets) o

  pub taken-cut : (cut (take (taken_of s t g o).answer.bytes (taken_of s t g o).output)).packets ≡ (result_of s t g).packets
  taken-cut = ap (λ (l : List ℕ). (cut l).packets) taken-bytes ∙ ap (λ (c : Cut). c.packets) (cut_all (result_of s t g).packets (result-whole s t g))

  -- what waits lies at the front of the gathering buffer, is not finished, and is what the next call finds
  pub taken-holds : take (taken_of s t g o).answer.reader.waiting (taken_of s t g o).gathering ≡ (result_of s t g).waiting
  unfolding taken_of
  taken-holds = take-front (result_of s t g).waiting _
