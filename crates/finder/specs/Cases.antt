-- Worked cases of the finder, in the documents' own strings. Proved by computing, in proofs/Worked.antt.
use Rattle.std.specs.Prelude.{◌≡◌, [], ◌∷◌, ◌++◌, replicate}
use Rattle.digits.specs.Text.{text}
use Rattle.frames.specs.Frame.{command}
use Rattle.finder.specs.declared.Found.TheVariants.{Frame, Nothing, Wait, TooLong}
use Rattle.finder.specs.Find.{find_in}

pub record Cases : Type 0 where
  -- Proved cases, 11: empty input: nothing found
  pub empty : find_in [] ≡ Nothing 0
  -- the first '!', and the first pair behind it
  pub found : find_in (text "ab!99299@@\r\n!99299@@\r\n") ≡ Frame 2 12
  pub wait : find_in (text "ab!99299@@\r") ≡ Wait 2
  pub dropped : find_in (text "ab\r\n") ≡ Nothing 4
  -- 1,023 bytes without a pair: up to and with the '!' is dropped; with 1,022, wait
  pub long : find_in (text "ab" ++ (command ∷ replicate 1022 0x30)) ≡ TooLong 3
  pub not_yet : find_in (text "ab" ++ (command ∷ replicate 1021 0x30)) ≡ Wait 2
  -- 02, c: line ends among the ten bytes; a later '!' is not looked at
  pub line_ends_lem : find_in (text "ab!99200\r\n\r\n\r\n!\r\n!@@\r\n!99299@@\r\n") ≡ Frame 2 22
  -- 19 bytes, and six with CR LF behind them: wait
  pub nineteen : find_in (text "ab!992000123456789@@\r") ≡ Wait 2
  pub cut : find_in (text "ab!99200\r\n\r\n") ≡ Wait 2
  -- the six bytes aren't all there, or are another ID's: document 01's rule
  pub head_cut : find_in (text "ab!99\r\n") ≡ Frame 2 7
  pub other_id : find_in (text "ab!9920\r\n") ≡ Frame 2 9
  -- CR LF aren't bytes 19 and 20: a frame, a wait, too long and nothing further on, counted from the start
  pub frame_behind : find_in (text "ab!99200!99299@@\r\n!9929") ≡ Frame 8 18
  pub wait_behind : find_in (text "ab!99200012345678901!99200\r\n") ≡ Wait 20
  pub long_behind : find_in (text "ab!99200!" ++ replicate 1022 0x30) ≡ TooLong 9
  pub none_behind : find_in (text "ab!992000123456789@@\r\r") ≡ Nothing 22
  -- station bytes CR LF: no test call; CR CR: one
  pub station : find_in (text "!\r\n20012345678901234567\r\n") ≡ Frame 0 3
  pub two_returns : find_in (text "!\r\r200\r\n\r\n\r\n\r\n\r\n@@\r\n") ≡ Frame 0 20
