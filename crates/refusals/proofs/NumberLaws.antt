-- The numbers of the refusals: none is 0.
-- Assumes nothing.
use mathlib.Core.Path.{◌≡◌}
use native.Mathlib.Nat.{suc-ne-zero}
use Rattle.refusals.specs.Refusals.{number_of}
use Rattle.refusals.specs.declared.Refusal.{Refusal}
use Rattle.refusals.specs.declared.Refusal.TheVariants.{TransportNot188, GatheringBufferShort, ReaderOutputShort, PidOutOfRange, SyncByteWrong, TransportErrorMarked, AnotherPid, Scrambled, NoPayload, AdaptationFieldLong, PointerBeyondPayload, CountRepeated, BatchCut, CrcWrong, BatchLong, OutputShort, FirstCountOver15, SliceUnder10, LengthUnlikePayloadLen, ReservedBitSet, ReservedType, PadBitsSet, PayloadSizeWrong, BandwidthCodeOver5, SubsecondsOverASecond, GroupCut, FunctionCut, FunctionLengthWrong, BandwidthValueReserved, MipHeaderWrong, SynchronizationIdWrong, SectionLengthWrong, TimeStampOver, MaximumDelayOver, StuffingNotFf, MipAddressingOver163, ReceptionTimeOver, TooWideOrUnfitState}

pub number-not-0 : (e : Refusal) → number_of e ≡ 0 → ⊥
number-not-0 TransportNot188 = suc-ne-zero 0
number-not-0 GatheringBufferShort = suc-ne-zero 1
number-not-0 ReaderOutputShort = suc-ne-zero 2
number-not-0 PidOutOfRange = suc-ne-zero 3
number-not-0 SyncByteWrong = suc-ne-zero 4
number-not-0 TransportErrorMarked = suc-ne-zero 5
number-not-0 AnotherPid = suc-ne-zero 6
number-not-0 Scrambled = suc-ne-zero 7
number-not-0 NoPayload = suc-ne-zero 8
number-not-0 AdaptationFieldLong = suc-ne-zero 9
number-not-0 PointerBeyondPayload = suc-ne-zero 10
number-not-0 CountRepeated = suc-ne-zero 11
number-not-0 BatchCut = suc-ne-zero 12
number-not-0 CrcWrong = suc-ne-zero 13
number-not-0 BatchLong = suc-ne-zero 14
number-not-0 OutputShort = suc-ne-zero 15
number-not-0 FirstCountOver15 = suc-ne-zero 16
number-not-0 SliceUnder10 = suc-ne-zero 17
number-not-0 LengthUnlikePayloadLen = suc-ne-zero 18
number-not-0 ReservedBitSet = suc-ne-zero 19
number-not-0 ReservedType = suc-ne-zero 20
number-not-0 PadBitsSet = suc-ne-zero 21
number-not-0 PayloadSizeWrong = suc-ne-zero 22
number-not-0 BandwidthCodeOver5 = suc-ne-zero 23
number-not-0 SubsecondsOverASecond = suc-ne-zero 24
number-not-0 GroupCut = suc-ne-zero 25
number-not-0 FunctionCut = suc-ne-zero 26
number-not-0 FunctionLengthWrong = suc-ne-zero 27
number-not-0 BandwidthValueReserved = suc-ne-zero 28
number-not-0 MipHeaderWrong = suc-ne-zero 29
number-not-0 SynchronizationIdWrong = suc-ne-zero 30
number-not-0 SectionLengthWrong = suc-ne-zero 31
number-not-0 TimeStampOver = suc-ne-zero 32
number-not-0 MaximumDelayOver = suc-ne-zero 33
number-not-0 StuffingNotFf = suc-ne-zero 34
number-not-0 MipAddressingOver163 = suc-ne-zero 35
number-not-0 ReceptionTimeOver = suc-ne-zero 36
number-not-0 TooWideOrUnfitState = suc-ne-zero 37
